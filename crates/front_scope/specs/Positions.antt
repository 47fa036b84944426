-- Names by position: what each name stands for, and refusal 5, "name unknown, declared twice, end or of name differing, wrong kind as target, output read", at that name.
-- Row j of the declared names begins with the index of its name; a statement's row with its kind and the index of its name; an item that is a name has code 1. Assumes nothing.
use Rattle.std.specs.Prelude.{Bool, false, not, List, Option, None, map, ℕ, zero, suc, ◌+◌, ◌*◌, min, eqb, get_or, set}
use Rattle.base_codes.specs.Statement as S
use Rattle.base_codes.specs.Declaration as D
use Rattle.base_codes.specs.Limit as L
use Rattle.base_codes.specs.Item as I
use Rattle.base_codes.specs.Token.{NAME}
use Rattle.spec_grammar.specs.Reader.{choose}
use Rattle.spec_language.specs.Bytes as B
use Rattle.spec_language.specs.Lexing.{equal}
use Rattle.spec_language.specs.Lists.{unless}
use Rattle.front_token.specs.Places.{part}
use Rattle.front_offences.specs.Lowest.{lowest_of, lower, lowest_from}
use Rattle.front_layout.specs.Arrays.{number_in}
use Rattle.front_offences.specs.declared.Shape.{Shape}
use Rattle.front_offences.specs.Positions.{has_name, mode_in}

-- the bytes of the token at an index, folded to lower case
abbrev pub folded_at : List ℕ → List ℕ → List ℕ → ℕ → ℕ → List ℕ
folded_at text starts sizes n i = map B.lower (part text (number_in starts n i) (number_in sizes n i))

-- "compared without regard to case": the tokens at two indices
unfoldable pub same_in : List ℕ → List ℕ → List ℕ → ℕ → ℕ → ℕ → Bool
same_in text starts sizes n a b = equal (folded_at text starts sizes n a) (folded_at text starts sizes n b)

-- the number of the first declared name, from number j on, c of them, that is the name at index i; the number after the last for none
unfoldable pub owner_from : List ℕ → List ℕ → List ℕ → ℕ → List ℕ → ℕ → ℕ → ℕ → ℕ
owner_from text starts sizes n decls i j zero = j
owner_from text starts sizes n decls i j (suc c) = choose (same_in text starts sizes n (get_or decls (D.ROW * j) 0) i) j
    (owner_from text starts sizes n decls i (j + 1) c)

-- of at most 65 declared names
abbrev pub owner_in : List ℕ → List ℕ → List ℕ → ℕ → List ℕ → ℕ → ℕ → ℕ
owner_in text starts sizes n decls d i = owner_from text starts sizes n decls i 0 (min d L.NAMES)

-- the token at index i: a name gets its number, every other token keeps what was there
abbrev pub filled : (ℕ → ℕ) → List ℕ → ℕ → List ℕ → List ℕ
filled f kinds i owners = choose (eqb (get_or kinds i 0) NAME) (set owners i (f i)) owners

-- the tokens from index i on, c of them
unfoldable pub fill_from : (ℕ → ℕ) → List ℕ → ℕ → ℕ → List ℕ → List ℕ
fill_from f kinds i zero owners = owners
fill_from f kinds i (suc c) owners = fill_from f kinds (i + 1) c (filled f kinds i owners)

-- "end or of name differing": the name at index a is not the one at b
abbrev pub differs_in : List ℕ → List ℕ → List ℕ → ℕ → ℕ → ℕ → Option ℕ
differs_in text starts sizes n a b = lowest_of (unless (same_in text starts sizes n a b) (number_in starts n a))

-- the three pairs of names
abbrev pub heads_in : List ℕ → List ℕ → List ℕ → Shape → Option ℕ
heads_in text starts sizes p =
    lower (differs_in text starts sizes p.tokens p.entity_end p.entity)
    (lower (differs_in text starts sizes p.tokens p.arch_of p.entity) (differs_in text starts sizes p.tokens p.arch_end p.arch))

-- "declared twice": declared name j stands for an earlier one
unfoldable pub doubled_at : List ℕ → List ℕ → List ℕ → ℕ → ℕ → Option ℕ
doubled_at decls starts owners n j = lowest_of (unless (eqb (number_in owners n (get_or decls (D.ROW * j) 0)) j) (number_in starts n (get_or decls (D.ROW * j) 0)))

-- "wrong kind as target": <= (kind 1) wants an output, := (kind 2) a variable; "A wait's name can meet 5 only by being unknown."
unfoldable pub fits_in : ℕ → ℕ → Bool
fits_in kind mode = choose (eqb kind S.WAIT) (not (eqb mode D.NO_MODE)) (choose (eqb kind S.OUTPUT) (eqb mode D.OUT) (eqb mode D.VARIABLE))

-- row j is a wait or an assignment whose name does not fit
unfoldable pub target_at : List ℕ → List ℕ → List ℕ → ℕ → List ℕ → ℕ → ℕ → Option ℕ
target_at rows starts owners n decls d j =
    choose (has_name (get_or rows (S.ROW * j) 0))
    (lowest_of (unless (fits_in (get_or rows (S.ROW * j) 0) (mode_in decls d (number_in owners n (get_or rows (S.ROW * j + S.TOKEN) 0))))
    (number_in starts n (get_or rows (S.ROW * j + S.TOKEN) 0)))) None

-- "Inputs and variables may be read, outputs not."
unfoldable pub readable_in : ℕ → Bool
readable_in mode = choose (eqb mode D.OUT) false (not (eqb mode D.NO_MODE))

-- item j is a name that is unknown or an output
unfoldable pub read_at : List ℕ → List ℕ → List ℕ → List ℕ → ℕ → List ℕ → ℕ → ℕ → Option ℕ
read_at codes indices starts owners n decls d j =
    choose (eqb (get_or codes j 0) I.NAME)
    (lowest_of (unless (readable_in (mode_in decls d (number_in owners n (get_or indices j 0)))) (number_in starts n (get_or indices j 0)))) None

-- the lowest of at most 65 declared names
abbrev pub doubled_in : List ℕ → ℕ → List ℕ → List ℕ → ℕ → Option ℕ
doubled_in decls d starts owners n = lowest_from (doubled_at decls starts owners n) 0 (min d L.NAMES)

-- the lowest of at most 512 statements
abbrev pub targets_in : List ℕ → ℕ → List ℕ → List ℕ → ℕ → List ℕ → ℕ → Option ℕ
targets_in rows s starts owners n decls d = lowest_from (target_at rows starts owners n decls d) 0 (min s L.STATEMENTS)

-- the lowest of at most 16384 items
abbrev pub reads_in : List ℕ → List ℕ → ℕ → List ℕ → List ℕ → ℕ → List ℕ → ℕ → Option ℕ
reads_in codes indices k starts owners n decls d = lowest_from (read_at codes indices starts owners n decls d) 0 (min k L.TEXT)

-- the lowest of all offences
unfoldable pub lowest_in : List ℕ → List ℕ → List ℕ → Shape → List ℕ → List ℕ → List ℕ → List ℕ → List ℕ → Option ℕ
lowest_in text starts sizes p codes indices rows decls owners =
    lower (heads_in text starts sizes p)
    (lower (doubled_in decls p.names starts owners p.tokens)
    (lower (targets_in rows p.statements starts owners p.tokens decls p.names)
    (reads_in codes indices p.items starts owners p.tokens decls p.names)))
