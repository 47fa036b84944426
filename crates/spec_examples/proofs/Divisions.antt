-- Document 02's values of slip 2, and those at the edges, as one table of claims on whole texts: table, direct run and equations alike. Each is computed from
-- the
-- text's bytes. Assumes nothing.
use mathlib.Core.Path.{◌≡◌, refl}
use mathlib.Core.List.{List, [], ◌∷◌, ◌++◌}
use Prim.Native.Nat.{ℕ}
use Prim.Native.String.{String}
use lib.ListN.{replicate, drop}
use lib.IntN.{ℤ, pos, negsuc}
use Rattle.spec_grammar.specs.Limits.{Each}
use Rattle.spec_language.specs.Bytes.{bytes}
use Rattle.spec_semantics.specs.Calls.{Answer, Called, performed, not_performed}
use Rattle.spec_examples.proofs.Nine.{Claim, traces, one_image, Says, image_of, table_trace, direct_trace, equation_trace, all_computed}

-- a board that gives out one expression, on its line 1; its output holds 9 at first
abbrev gives : String → List ℕ
gives e =
    bytes "entity e is port(clk:in std_logic;o:out integer:=9);end e;architecture t of e is begin process begin null;o<=" ++
    (bytes e ++ bytes ";wait until clk='1';end process;end t;")

abbrev leaves : Answer → ℕ → ℤ → ℤ → List Called
leaves a p z r = record { answer = a; state = record { place = p; outputs = z ∷ replicate 15 (pos 0); variables = replicate 32 (pos 0) }; row = r ∷ [] } ∷ []

-- one row, whose output row holds 99: the expression's value is given out ..
abbrev is : String → ℤ → Claim
is e z = traces (gives e) (record { inputs = []; outputs = pos 99 ∷ [] } ∷ []) (leaves (performed (0 ∷ 1 ∷ 2 ∷ [])) 2 z z)

-- .. or an operator of line 1 is refused by this number
abbrev refused : String → ℕ → Claim
refused e q = traces (gives e) (record { inputs = []; outputs = pos 99 ∷ [] } ∷ []) (leaves (not_performed q 1) 512 (pos 9) (pos 99))

abbrev pub divisions : List Claim
divisions =
    -- "(-7) mod 3 is 2, (-7) rem 3 is -1, 7 mod (-3) is -2"; "`-7 mod 3` is -1"
    is "(-7) mod 3" (pos 2) ∷ is "(-7) rem 3" (negsuc 0) ∷ is "7 mod (-3)" (negsuc 1) ∷ is "-7 mod 3" (negsuc 0) ∷
    -- "/ cuts toward zero"
    is "(-7) / 2" (negsuc 2) ∷ is "7 / (-2)" (negsuc 2) ∷
    -- "A product outside integer and the least integer divided by -1 get 16; the latter's mod and rem by -1 are 0"
    refused "65536 * 32768" 16 ∷ is "(-65536) * 32768" (negsuc 2147483647) ∷ refused "-65536 * 32768" 16 ∷
    refused "(-2147483647 - 1) / (-1)" 16 ∷ is "(-2147483647 - 1) mod (-1)" (pos 0) ∷ is "(-2147483647 - 1) rem (-1)" (pos 0) ∷
    is "(-2147483647) / (-1)" (pos 2147483647) ∷
    -- "18, a zero divisor"
    refused "1 / 0" 18 ∷ refused "1 mod 0" 18 ∷ refused "1 rem 0" 18 ∷ refused "0 / 0" 18 ∷ is "0 / 1" (pos 0) ∷
    -- "16 and 18 go by whichever operator is reached first": operands before operators, left before right
    refused "(2147483647 + 1) / 0" 16 ∷ refused "1 / 0 + (2147483647 + 1)" 18 ∷ refused "(2147483647 + 1) + 1 / 0" 16 ∷
    -- "binding tighter than +", left first
    is "2 + 3 * 4" (pos 14) ∷ is "100 / 7 * 7" (pos 98) ∷ is "100 - 100 / 7 * 7 mod 5" (pos 97) ∷ is "-2 * 3 + 10" (pos 4) ∷
    one_image (gives "2+3*4-5/6 mod 7") (gives "(2+(3*4))-((5/6)mod 7)") 107 ∷ []

pub divisions_hold : Each Says divisions
unfolding all_computed image_of table_trace direct_trace equation_trace
divisions_hold = (
  (refl, refl, refl),
  (
    (refl, refl, refl),
    (
      (refl, refl, refl),
      (
        (refl, refl, refl),
        (
          (refl, refl, refl),
          (
            (refl, refl, refl),
            (
              (refl, refl, refl),
              (
                (refl, refl, refl),
                (
                  (refl, refl, refl),
                  (
                    (refl, refl, refl),
                    (
                      (refl, refl, refl),
                      (
                        (refl, refl, refl),
                        (
                          (refl, refl, refl),
                          (
                            (refl, refl, refl),
                            (
                              (refl, refl, refl),
                              (
                                (refl, refl, refl),
                                (
                                  (refl, refl, refl),
                                  (
                                    (refl, refl, refl),
                                    (
                                      (refl, refl, refl),
                                      (
                                        (refl, refl, refl),
                                        (
                                          (refl, refl, refl),
                                          (
                                            (refl, refl, refl),
                                            ((refl, refl, refl), ((refl, refl, refl), ((refl, refl, refl), ((refl, refl), tt)))),
                                          ),
                                        ),
                                      ),
                                    ),
                                  ),
                                ),
                              ),
                            ),
                          ),
                        ),
                      ),
                    ),
                  ),
                ),
              ),
            ),
          ),
        ),
      ),
    ),
  ),
)

-- "Codes are 29 to 32 in the order named", each behind its operands; the sign, 16, behind the whole first term
pub codes : drop 72 (image_of (gives "1 * 2 / 3 mod 4 rem 5"))
    ≡ 1 ∷ 1 ∷ 0 ∷ 0 ∷ 0 ∷ 1 ∷ 2 ∷ 0 ∷ 0 ∷ 0 ∷ 29 ∷ 1 ∷ 3 ∷ 0 ∷ 0 ∷ 0 ∷ 30 ∷ 1 ∷ 4 ∷ 0 ∷ 0 ∷ 0 ∷ 31 ∷ 1 ∷ 5 ∷ 0 ∷ 0 ∷ 0 ∷ 32 ∷ []
unfolding all_computed image_of
codes = refl

pub sign_last : drop 72 (image_of (gives "-7 mod 3")) ≡ 1 ∷ 7 ∷ 0 ∷ 0 ∷ 0 ∷ 1 ∷ 3 ∷ 0 ∷ 0 ∷ 0 ∷ 31 ∷ 16 ∷ []
unfolding all_computed image_of
sign_last = refl
