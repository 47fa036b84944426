-- What starts at a place, by the kind of the byte there: the code's answers are those of start_of. Assumes nothing.
use mathlib.Core.Path.{◌≡◌, refl, sym, ◌∙◌, ap}
use mathlib.Core.Bool.{Bool, true, false}
use mathlib.Core.Logic.{◌⊎◌, inl, inr}
use mathlib.Core.List.{List, [], ◌∷◌, map}
use Prim.Native.Nat.{ℕ, suc, ◌+◌, ◌-◌, ◌≤◌, ◌<◌}
use native.Mathlib.Omega.{arith}
use native.Mathlib.Numerals.{add-one}
use lib.Dec.{eqb}
use lib.ListN.{length, get_or, take, drop, drop_of_length-le}
use lib.Seq.{drop-cons, get_or-drop, take_at}
use borrow.Author.Tests.{eq-eqb, ne_eqb}
use Rattle.base_codes.specs.Token.{NUMBER}
use Rattle.spec_language.specs.Bytes.{bytes, between, elem, bytes_of, letter, digit, underscore, blank, quote, mark, none, byte_kind, kind_code, is}
use Rattle.spec_language.specs.Bytes.{is_digit, in_word, not_lf, lower, fixed}
use Rattle.spec_language.specs.Words.{well_made, folded, reserved, word_kind, peek, is_dashes}
use Rattle.spec_language.specs.Lexer.{run, fixed_start, word_start, number_start, start_from, start_of}
use Rattle.spec_language.proofs.Lexing.{run_is}
use Rattle.front_token.specs.declared.kinds.ByteKind as K
use Rattle.front_token.specs.declared.kinds.ByteKind.TheVariants.{Letter, Digit, Underscore, Blank, Quote, Mark, Other}
use Rattle.front_token.specs.declared.pieces.Piece.TheVariants.{Gap, Token, Nothing}
use Rattle.front_token.specs.Places.{end_of_run, part}
use Rattle.front_token.specs.Pieces.{placed, piece_from, piece_at}
use Rattle.front_token.specs.Reserved.{reserved_kind}
use Rattle.front_token.proofs.ByteKinds.{kind_at, kind_is}
use Rattle.front_token.proofs.WordLaws.{reserved_kind_lem}

-- the part up to a run's end is the run
pub run_part : (p : ℕ → Bool) (text : List ℕ) (at : ℕ) → part text at (end_of_run p text at - at) ≡ run p (drop at text)
run_part p text at =
    let r = run_is p (drop at text) in
    let n : end_of_run p text at - at ≡ length (run p (drop at text)) = omega arith in
    rw n (ap (take (length (run p (drop at text)))) r.split ∙ take_at (run p (drop at text)) r.rest (length (run p (drop at text))) refl)

module _ (text : List ℕ) (at end : ℕ) (e : end ≡ end_of_run in_word text at) where
  the_word : part text at (end - at) ≡ run in_word (drop at text)
  the_word = rw e (run_part in_word text at)

  pub word_bad : well_made false (part text at (end - at)) ≡ false → Nothing ≡ placed (word_start (run in_word (drop at text))) at
  unfolding word_start
  word_bad g = let h : well_made false (run in_word (drop at text)) ≡ false = ap (well_made false) (sym the_word) ∙ g in rw h

  pub word_good : (k : ℕ) → well_made false (part text at (end - at)) ≡ true → k ≡ reserved_kind (map lower (part text at (end - at)))
      → Token k end ≡ placed (word_start (run in_word (drop at text))) at
  unfolding word_start
  word_good k g s =
      let h : well_made false (run in_word (drop at text)) ≡ true = ap (well_made false) (sym the_word) ∙ g in
      let q : k ≡ word_kind reserved (folded 0 (run in_word (drop at text))) = s
      ∙ (ap (λ (w : List ℕ). reserved_kind (map lower w)) the_word
      ∙ reserved_kind_lem (run in_word (drop at text)) (run_is in_word (drop at text)).passes) in
      rw (h, q, e)

pub number_good : (text : List ℕ) (at end : ℕ) → end ≡ end_of_run is_digit text at → Token NUMBER end ≡ placed (number_start (run is_digit (drop at text))) at
unfolding number_start
number_good text at end e = rw e

peek_first : (l : List ℕ) → peek l ≡ get_or l 0 0
unfolding peek
peek_first [] = refl
peek_first (b ∷ l) = refl

pub peek_at : (text : List ℕ) (at : ℕ) → peek (drop (suc at) text) ≡ get_or text (at + 1) 0
peek_at text at = peek_first (drop (suc at) text) ∙ (get_or-drop (suc at) text 0 0 ∙ ap (λ (i : ℕ). get_or text i 0) (omega arith))

pub dashes_not : (text : List ℕ) (at b : ℕ) → (b ≡ 45 → ⊥) → false ≡ is_dashes b (drop (suc at) text)
unfolding is_dashes
dashes_not text at b h = rw (ne_eqb b 45 h)

pub dashes_second : (text : List ℕ) (at b c : ℕ) → b ≡ 45 → c ≡ get_or text (at + 1) 0 → eqb c 45 ≡ is_dashes b (drop (suc at) text)
unfolding is_dashes
dashes_second text at b c e f = rw (eq-eqb b 45 e, peek_at text at, f)

module _ (text : List ℕ) (at b : ℕ) where
  pub mark_comment : (end : ℕ) → is_dashes b (drop (suc at) text) ≡ true → end ≡ end_of_run not_lf text (at + 1)
      → Gap end ≡ placed (start_from mark b (drop (suc at) text)) at
  unfolding start_from
  mark_comment end d e = rw (d, e, add-one at) (ap Gap (omega arith))

  pub mark_fixed : is_dashes b (drop (suc at) text) ≡ false
      → placed (start_from mark b (drop (suc at) text)) at ≡ placed (fixed_start fixed (b ∷ drop (suc at) text)) at
  unfolding start_from
  mark_fixed d = rw d

run_first : (p : ℕ → Bool) (b : ℕ) (l : List ℕ) → p b ≡ true → run p (b ∷ l) ≡ b ∷ run p l
unfolding run
run_first p b l e = rw e

-- by the kind of the byte, at a place that is in the text
module _ (text : List ℕ) (at : ℕ) (h : at < length text) where
  opened : piece_at text at ≡ placed (start_from (byte_kind (get_or text at 0)) (get_or text at 0) (drop (suc at) text)) at
  unfolding start_of
  opened = ap (λ (l : List ℕ). piece_from l at) (drop-cons text at 0 h)

  pub piece_word : Letter ≡ kind_at (get_or text at 0) → placed (word_start (run in_word (drop at text))) at ≡ piece_at text at
  unfolding start_from in_word is
  piece_word f =
      let k = kind_is letter _ f in
      let p : in_word (get_or text at 0) ≡ true = rw k in
      sym (opened ∙ rw (k, drop-cons text at 0 h, run_first in_word (get_or text at 0) (drop (suc at) text) p))

  pub piece_number : Digit ≡ kind_at (get_or text at 0) → placed (number_start (run is_digit (drop at text))) at ≡ piece_at text at
  unfolding start_from is
  piece_number f =
      let k = kind_is digit _ f in
      let p : is_digit (get_or text at 0) ≡ true = rw k in
      sym (opened ∙ rw (k, drop-cons text at 0 h, run_first is_digit (get_or text at 0) (drop (suc at) text) p))

  pub piece_blank : Blank ≡ kind_at (get_or text at 0) → Gap (at + 1) ≡ piece_at text at
  unfolding start_from
  piece_blank f = sym (opened ∙ rw (kind_is blank _ f))

  piece_mark : Mark ≡ kind_at (get_or text at 0) → placed (start_from mark (get_or text at 0) (drop (suc at) text)) at ≡ piece_at text at
  piece_mark f = sym (opened ∙ rw (kind_is mark _ f))

  -- a quote opens no comment
  quote_dash : byte_kind (get_or text at 0) ≡ quote → get_or text at 0 ≡ 45 → ⊥
  unfolding byte_kind between elem bytes_of fixed bytes
  quote_dash f g = let z : ◌≡◌ {A = ℕ} 5 4 = ap (λ (b : ℕ). kind_code (byte_kind b)) (sym g) ∙ ap kind_code f in omega arith

  piece_quote : Quote ≡ kind_at (get_or text at 0) → placed (start_from mark (get_or text at 0) (drop (suc at) text)) at ≡ piece_at text at
  unfolding start_from
  piece_quote f =
      let k = kind_is quote _ f in
      mark_fixed text at (get_or text at 0) (sym (dashes_not text at (get_or text at 0) (quote_dash k))) ∙ sym (opened ∙ rw k)

  pub piece_fixed : (k : K.ByteKind) → k ≡ kind_at (get_or text at 0) → (k ≡ Quote) ⊎ (k ≡ Mark)
      → placed (start_from mark (get_or text at 0) (drop (suc at) text)) at ≡ piece_at text at
  piece_fixed k e (inl q) = piece_quote (sym q ∙ e)
  piece_fixed k e (inr m) = piece_mark (sym m ∙ e)

  pub piece_nothing : (k : K.ByteKind) → k ≡ kind_at (get_or text at 0) → (k ≡ Underscore) ⊎ (k ≡ Other) → Nothing ≡ piece_at text at
  unfolding start_from
  piece_nothing k e (inl u) = sym (opened ∙ rw (kind_is underscore _ (sym u ∙ e)))
  piece_nothing k e (inr o) = sym (opened ∙ rw (kind_is none _ (sym o ∙ e)))

pub piece_end : (text : List ℕ) (at : ℕ) → length text ≤ at → Nothing ≡ piece_at text at
piece_end text at h = rw (drop_of_length-le text h)
