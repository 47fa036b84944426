-- `front_parser::read` meets its contract: the three parts one after the other, and their answer is the grammar's. Assumes nothing.
use mathlib.Core.Path.{refl, ◌∙◌}
use Rattle.std.proofs.lemmas.Result.{err_from_is_err_and}
use Rattle.front_cursor.proofs.Steps.{unread_ends}
use Rattle.front_parser.proofs.Texts.{parse_unread, parse_longer, parse_whole, small}
use Rattle.front_parser.proofs.PartLaws.{architecture_ended, process_ended}
use Rattle.front_parser.proofs.read.Goals as goal

pub returns-in_err-p : goal.returns-in_err-p
returns-in_err-p c =
    let v = c.in_err-p.ensures in
    let u = architecture_ended _ v.asks (unread_ends _) in
    let p = err_from_is_err_and c.from_residual.result c.from_residual.ensures.1 in
    rw (p.1, p.2)
    (record {
      reads = λ ts l holds. parse_unread v u (process_ended _ u.asks (unread_ends _)) ts holds _ refl;
      too_many = λ w. absurd (small c.requires w);
      untouched = λ w. absurd (small c.requires w);
    })

pub returns-in_err-q : goal.returns-in_err-q
returns-in_err-q c =
    let u = c.in_err-q.ensures in
    let p = err_from_is_err_and c.from_residual-in_err-q.result c.from_residual-in_err-q.ensures.1 in
    rw (p.1, p.2)
    (record {
      reads = λ ts l holds. parse_unread c.in_ok-p.ensures u (process_ended _ u.asks (unread_ends _)) ts holds _ refl;
      too_many = λ w. absurd (small c.requires w);
      untouched = λ w. absurd (small c.requires w);
    })

pub process-requires : goal.process-requires
process-requires c = (c.in_ok-q.ensures.asks, c.in_ok-q.ensures.none refl ∙ c.in_ok-p.ensures.none)

pub returns-in_err-r : goal.returns-in_err-r
returns-in_err-r c =
    let p = err_from_is_err_and c.from_residual-in_err-r.result c.from_residual-in_err-r.ensures.1 in
    rw (p.1, p.2)
    (record {
      reads = λ ts l holds. parse_unread c.in_ok-p.ensures c.in_ok-q.ensures c.in_err-r.ensures ts holds _ refl;
      too_many = λ w. absurd (small c.requires w);
      untouched = λ w. absurd (small c.requires w);
    })

pub returns-then-last-n : goal.returns-then-last-n
returns-then-last-n c =
    record {
      reads = λ ts l holds. parse_longer c.in_ok-p.ensures c.in_ok-q.ensures c.in_ok-r.ensures ts holds refl c.if-last-n.true;
      too_many = λ w. absurd (small c.requires w);
      untouched = λ w. absurd (small c.requires w);
    }

pub numbers-requires : goal.numbers-requires
numbers-requires c = let k = c.in_ok-q.ensures.asks in (k.inputs, k.outputs, k.vars)

pub returns : goal.returns
returns c =
    rw c.numbers.ensures
    (record {
      reads = λ ts l holds. parse_whole c.in_ok-p.ensures c.in_ok-q.ensures c.in_ok-r.ensures ts holds refl c.if-last-n.false;
      too_many = λ w. absurd (small c.requires w);
      untouched = λ w. absurd (small c.requires w);
    })
