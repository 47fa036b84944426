-- The token that starts at a place, and the part of the text that is handed out for it: it stands in the text at that place. Assumes nothing.
use mathlib.Core.Path.{◌≡◌, refl, sym, ◌∙◌, ap, subst}
use mathlib.Core.Logic.{⊎_elim, ◌↔◌}
use mathlib.Core.List.{List, [], ◌++◌, append_assoc}
use Prim.Native.Nat.{ℕ, ◌+◌, ◌≤◌, ◌<◌}
use native.Mathlib.Omega.{arith}
use lib.ListN.{length, length-append}
use denote.Ref.{Bor}
use Rattle.spec_language.specs.Lexing.{Starts}
use Rattle.spec_language.specs.Lexing as S
use Rattle.spec_language.specs.Lexer.{token_at}
use Rattle.spec_language.specs.Validity.{Refuses}
use Rattle.spec_language.specs.Validity as Q
use Rattle.spec_language.proofs.Numbers.{first_not_2}
use Rattle.spec_language.proofs.TokenAt.{token_at_lem, token_some, starts_computed, stop_nothing}
use Rattle.spec_interface.specs.Lending.{bytes_between, Lends, StandsAt, PartAt}
use Rattle.spec_promises.specs.Promises.{Handed}
use Rattle.spec_interface.proofs.Lending.{stands_between, stands_lent, empty_stands, empty_between}

-- what starts at p, the text t being read from n on, stands so far behind n
abbrev Stands : ℕ → List ℕ → ℕ → List ℕ → Type 0
Stands n t p u = (q : ℕ) × (n + q ≡ p) × StandsAt t q u

further : (n : ℕ) {p : ℕ} (w : List ℕ) {rest u : List ℕ} → Stands (n + length w) rest p u → Stands n (w ++ rest) p u
further n w s =
    let e = length-append w s.2.before in
    let h = s.1 in
    let l = s.2.place in (
      length w + s.0,
      omega arith,
      record {
        before = w ++ s.2.before;
        behind = s.2.behind;
        is = ap (λ (l : List ℕ). w ++ l) s.2.is
            ∙ sym (append_assoc w s.2.before _);
        place = omega arith;
      },
    )

stands_from : {n p : ℕ} {t u : List ℕ} → Starts n t p u → Stands n t p u
stands_from (S.Starts.here {rest = rest} q) = (0, omega arith, record { before = []; behind = rest; is = refl; place = refl })
stands_from {n} (S.Starts.gap {w = w} q r) = further n w (stands_from r)
stands_from {n} (S.Starts.token {w = w} q r) = further n w (stands_from r)

-- a token stands in the text where it starts
stands : {p : ℕ} {t u : List ℕ} → Starts 0 t p u → StandsAt t p u
stands {p} {t} {u} s = let z = stands_from s in let h = z.1 in let e : z.0 ≡ p = omega arith in subst (λ (q : ℕ). StandsAt t q u) e z.2

-- the bytes from the place on, as many as the token has, are the token's
pub token_between : (t : List ℕ) (p : ℕ) → bytes_between t p (p + length (token_at t p)) ≡ token_at t p
token_between t p = ⊎_elim (λ h. rw h.0 (empty_between t p)) (λ h. stands_between t p (token_at t p) (stands h)) (token_at_lem t p)

-- the token, or the empty part, stands at the place
token_stands : (t : List ℕ) (p : ℕ) → p ≤ length t → StandsAt t p (token_at t p)
token_stands t p l = ⊎_elim (λ h. rw h.0 (empty_stands t p l)) (λ h. stands h) (token_at_lem t p)

-- the token that starts there, exactly
token_is : (t : List ℕ) (p : ℕ) (u : List ℕ) → Starts 0 t p u ↔ ((token_at t p ≡ u) × (0 < length u))
unfolding token_at
token_is t p u = (
  λ s. (starts_computed s, token_some s),
  λ h. ⊎_elim (λ n. let z = h.1 in let e : length u ≡ 0 = ap length (sym h.0 ∙ n.0) in absurd (omega arith)) (λ s. subst (Starts 0 t p) h.0 s)
      (token_at_lem t p),
)

-- the empty part, exactly where none starts
token_missing : (t : List ℕ) (p : ℕ) → (token_at t p ≡ []) ↔ ((u : List ℕ) → Starts 0 t p u → ⊥)
token_missing t p = (
  λ e u s. let z = (token_is t p u).0 s in let a = z.1 in let h : length u ≡ 0 = ap length (sym z.0 ∙ e) in omega arith,
  λ h. ⊎_elim (λ n. n.0) (λ s. absurd (h (token_at t p) s)) (token_at_lem t p),
)

-- refusal 2
stopped : (t : List ℕ) (p : ℕ) → Refuses t 2 p → token_at t p ≡ []
stopped t p (Q.token_missing h s) = stop_nothing s
stopped t p (Q.offends {t = x} r f) = first_not_2 x p f

-- what is lent between the bounds of the token
lent : (t : List ℕ) (p : ℕ) (s r : Bor (List ℕ)) → s.now ≡ t → Lends s p (p + length (token_at t p)) r → (r.now ≡ token_at t p) × (p ≤ length t → PartAt s p r)
lent t p s r e l = (
  l.bytes ∙ (ap (λ (x : List ℕ). bytes_between x p (p + length (token_at t p))) e ∙ token_between t p),
  λ h. (stands_lent s r p (token_at t p) (subst (λ (x : List ℕ). StandsAt x p (token_at t p)) (sym e) (token_stands t p h)) l).1,
)

pub handed : (text : List ℕ) (place : ℕ) → Handed text place
handed text place =
    record {
      token = token_is text place;
      none = token_missing text place;
      malformed = stopped text place;
      stands = token_stands text place;
      part = lent text place;
    }
