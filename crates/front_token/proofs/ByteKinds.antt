-- The kinds of bytes: the table's rule, and the tests on a kind. Assumes nothing.
use mathlib.Core.Path.{◌≡◌, refl, sym, ◌∙◌, ap}
use mathlib.Core.Bool.{Bool, true, false, ◌||◌}
use mathlib.Core.Logic.{◌⊎◌, inl, inr}
use mathlib.Core.List.{List}
use Prim.Native.Nat.{ℕ}
use native.Mathlib.Omega.{arith}
use lib.Dec.{eqb}
use lib.ListN.{length, get_or}
use borrow.Author.Tests.{eqb-true, eqb-false, eq-eqb, ne_eqb}
use denote.Enum.Bare.{sameb, tag_one}
use denote.Enum.Declared.{tag_of}
use Rattle.spec_language.specs.Bytes as B
use Rattle.spec_language.specs.Bytes.{byte_kind, kind_code, is, in_word}
use Rattle.front_token.specs.declared.kinds.ByteKind.{ByteKind}
use Rattle.front_token.specs.declared.kinds.ByteKind.TheVariants.{Letter, Digit, Underscore, Blank, Quote, Mark, Other}
use Rattle.front_token.specs.contracts.kinds.ByteKind.{the_type}
use Rattle.front_token.specs.Kinds.{Kinds, named}
use Rattle.front_token.proofs.Entries.{every, entry, values, value_at}

-- the kind of each byte
abbrev pub kind_at : ℕ → ByteKind
kind_at b = named (byte_kind b)

tag_is : (k : B.ByteKind) → tag_of the_type (named k) ≡ kind_code k
tag_is B.letter = refl
tag_is B.digit = refl
tag_is B.underscore = refl
tag_is B.blank = refl
tag_is B.quote = refl
tag_is B.mark = refl
tag_is B.none = refl

-- the entry x of the byte b is the kind of that byte
unfoldable pub right : ℕ → ByteKind → Bool
right b x = eqb (tag_of the_type x) (kind_code (byte_kind b))

-- a table of the kinds of the 256 bytes
pub kinds_by : (table : List ByteKind) → table ≡ values kind_at 0 256 → Kinds table
kinds_by table e = record { each = λ b h. rw e (value_at kind_at 256 b Other h) }

-- a table of 256 entries that are all right
pub kinds_tested : (table : List ByteKind) → length table ≡ 256 → every right 0 table ≡ true → Kinds table
unfolding right
kinds_tested table n e = record {
  each = λ b h. tag_one the_type tt (get_or table b Other) (kind_at b) (eqb-true (tag_of the_type (get_or table b Other)) (kind_code (byte_kind b)) (entry right Other table e b (omega arith)) ∙ sym (tag_is (byte_kind b)));
}

-- what a call computes, told by a test on its answer
pub flag : {x q r : Bool} → r ≡ x → r ≡ q → x ≡ q
flag e t = sym e ∙ t

-- the kind of that name
kind_from : ByteKind → B.ByteKind
kind_from Letter = B.letter
kind_from Digit = B.digit
kind_from Underscore = B.underscore
kind_from Blank = B.blank
kind_from Quote = B.quote
kind_from Mark = B.mark
kind_from Other = B.none

kind_from_lem : (k : B.ByteKind) → kind_from (named k) ≡ k
unfolding kind_from
kind_from_lem B.letter = refl
kind_from_lem B.digit = refl
kind_from_lem B.underscore = refl
kind_from_lem B.blank = refl
kind_from_lem B.quote = refl
kind_from_lem B.mark = refl
kind_from_lem B.none = refl

-- the kind of a byte by its name in the table
pub kind_is : (k : B.ByteKind) (b : ℕ) → named k ≡ kind_at b → byte_kind b ≡ k
kind_is k b e = sym (kind_from_lem (byte_kind b)) ∙ (ap kind_from (sym e) ∙ kind_from_lem k)

eqb_comm : (a b : ℕ) → eqb a b ≡ eqb b a
eqb_comm a b = go (eqb a b) refl
  where
    go : (q : Bool) → eqb a b ≡ q → q ≡ eqb b a
    go true e = sym (eq-eqb b a (sym (eqb-true a b e)))
    go false e = sym (ne_eqb b a (λ f. eqb-false a b e (sym f)))

-- a comparison with a kind says whether the byte is of it
pub same_kind : (k : B.ByteKind) (b : ℕ) (r : ByteKind) → r ≡ kind_at b → sameb the_type r (named k) ≡ is k b
unfolding is
same_kind k b r e = rw (e, tag_is (byte_kind b), tag_is k) (eqb_comm (kind_code (byte_kind b)) (kind_code k))

-- a byte of a kind has it in the table
pub is_kind : (k : B.ByteKind) (b : ℕ) → is k b ≡ true → named k ≡ kind_at b
unfolding is
is_kind k b e = tag_one the_type tt (named k) (kind_at b) (tag_is k ∙ (eqb-true (kind_code k) (kind_code (byte_kind b)) e ∙ sym (tag_is (byte_kind b))))

-- "letters, digits and underscores"
abbrev pub stands_in_word : ByteKind → Bool
stands_in_word Letter = true
stands_in_word Digit = true
stands_in_word Underscore = true
stands_in_word Blank = false
stands_in_word Quote = false
stands_in_word Mark = false
stands_in_word Other = false

word_kinds : (k : B.ByteKind) → stands_in_word (named k) ≡ (eqb 0 (kind_code k) || (eqb 1 (kind_code k) || eqb 2 (kind_code k)))
word_kinds B.letter = refl
word_kinds B.digit = refl
word_kinds B.underscore = refl
word_kinds B.blank = refl
word_kinds B.quote = refl
word_kinds B.mark = refl
word_kinds B.none = refl

pub word_is : (b : ℕ) (r : ByteKind) → r ≡ kind_at b → stands_in_word r ≡ in_word b
unfolding in_word is
word_is b r e = rw e (word_kinds (byte_kind b))

pub word_one : (b : ℕ) (r : ByteKind) → r ≡ kind_at b → (r ≡ Letter) ⊎ ((r ≡ Digit) ⊎ (r ≡ Underscore)) → true ≡ in_word b
word_one b r e (inl l) = ap stands_in_word (sym l) ∙ word_is b r e
word_one b r e (inr (inl d)) = ap stands_in_word (sym d) ∙ word_is b r e
word_one b r e (inr (inr u)) = ap stands_in_word (sym u) ∙ word_is b r e

-- no other kind stands in a word
pub word_not : (b : ℕ) (r : ByteKind) → r ≡ kind_at b → (r ≡ Letter → ⊥) → (r ≡ Digit → ⊥) → (r ≡ Underscore → ⊥) → false ≡ in_word b
word_not b r e l d u = go r refl ∙ word_is b r e
  where
    go : (k : ByteKind) → r ≡ k → false ≡ stands_in_word r
    go Letter f = absurd (l f)
    go Digit f = absurd (d f)
    go Underscore f = absurd (u f)
    go Blank f = rw f
    go Quote f = rw f
    go Mark f = rw f
    go Other f = rw f
