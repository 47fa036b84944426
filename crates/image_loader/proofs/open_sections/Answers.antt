-- `image_loader::open_sections` meets its contract: the parts of the image are its sections, and what they answer is what the image answers.
-- Assumes nothing.
use native.Mathlib.Omega.{arith}
use mathlib.Core.Path.{refl, sym, ◌∙◌}
use lib.ListN.{length}
use Rattle.image_loader.proofs.OpenLaws.{lengths, open_12, open_13, open_good, open_bad, signature_part, lines_part, code_part, lines_few}
use borrow.Author.Rules.{rules}
use Rattle.std.specs.Prelude.{◌≡◌, Ok, Err, MatchResult}
use Rattle.base_answers.specs.declared.Refusal.TheVariants.{BadLine}
use Rattle.image_loader.proofs.open_sections.Goals as goal

pub slice_bounds-signature-end : goal.slice_bounds-signature-end
slice_bounds-signature-end c = let q = (lengths c.args.image.now c.requires.image_value).all in omega arith

pub slice_bounds-judge-end : goal.slice_bounds-judge-end
slice_bounds-judge-end c = let q = (lengths c.args.image.now c.requires.image_value).all in omega arith

pub slice_bounds-judge-count-2 : goal.slice_bounds-judge-count-2
slice_bounds-judge-count-2 c = let q = (lengths c.args.image.now c.requires.image_value).all in omega arith

pub slice_bounds-judge-start-2 : goal.slice_bounds-judge-start-2
slice_bounds-judge-start-2 c = let q = (lengths c.args.image.now c.requires.image_value).all in omega arith

pub judge-requires-clause-lines_len_bound : goal.judge-requires-clause-lines_len_bound
judge-requires-clause-lines_len_bound c =
    let a = c.args in
    lines_few a.image.now c.requires.image_value _ (lines_part a.image.now c.requires.image_value a.lines a.code c.requires.lines_value c.requires.code_value)

pub returns-then-not-has_signature : goal.returns-then-not-has_signature
returns-then-not-has_signature c =
    let a = c.args in
    open_12 a.image.now c.requires.image_value _ (signature_part a.image.now c.requires.image_value a.lines c.requires.lines_value)
    (sym c.has_signature.ensures ∙ c.if-not-has_signature.true)

pub returns-in_err-map_err : goal.returns-in_err-map_err
returns-in_err-map_err c =
    let a = c.args in
    let i = c.requires.image_value in
    let l = c.requires.lines_value in
    let k = c.requires.code_value in
    let m : MatchResult c.judge.result (λ x. c.map_err.result ≡ Ok x) (λ x. c.map_err.result ≡ Err (BadLine x)) = search rules in
    let r : c.from_residual.result ≡ Err c.in_err-map_err.field-0.0 = search rules in
    rw r (open_bad a.image.now i c.judge.result c.map_err.result m c.in_err-map_err.was (open_13 a.image.now i _ _ _ (signature_part a.image.now i a.lines l)
    (lines_part a.image.now i a.lines a.code l k) (code_part a.image.now i a.code (length a.image.now) k refl) (sym c.has_signature.ensures ∙ c.if-not-has_signature.false)
    c.judge.result c.judge.ensures))

pub returns : goal.returns
returns c =
    let a = c.args in
    let i = c.requires.image_value in
    let l = c.requires.lines_value in
    let k = c.requires.code_value in
    let m : MatchResult c.judge.result (λ x. c.map_err.result ≡ Ok x) (λ x. c.map_err.result ≡ Err (BadLine x)) = search rules in
    open_good a.image.now i c.judge.result c.map_err.result m c.in_ok-map_err.was l k (open_13 a.image.now i _ _ _ (signature_part a.image.now i a.lines l)
    (lines_part a.image.now i a.lines a.code l k) (code_part a.image.now i a.code (length a.image.now) k refl) (sym c.has_signature.ensures ∙ c.if-not-has_signature.false)
    c.judge.result c.judge.ensures)
