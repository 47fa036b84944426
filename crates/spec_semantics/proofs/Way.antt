-- No statement comes twice on the way of a cycle. A statement of class C has no number both on a way that begins with its start and
-- on a way that passes it; so what a cycle performs after the wait and what it performs from the beginning differ. Assumes nothing.
use Prim.Native.Nat.{ℕ, suc, ◌+◌, ◌≤◌, ◌<◌}
use native.Mathlib.Omega.{arith}
use mathlib.Core.Path.{◌≡◌, refl}
use mathlib.Core.Logic.{◌⊎◌, inl, inr, ⊎_elim}
use mathlib.Core.Bool.{Bool, true, false}
use mathlib.Core.List.Memᴰ
use mathlib.Core.List.{List, [], Memᴰ}
use lib.IntN.{ℤ}
use Rattle.spec_design.specs.Expression.{Out, fine, fault}
use Rattle.spec_design.specs.Statement.{Stmt, act, wait, if_then, if_else, while, seq, size, has, A, C, class_of, LoopsC}
use Rattle.spec_semantics.specs.Equations.{Memory, Run, Result, passed, reached, refused, log, then, acted, tested, pick, start, resume, Place, beginning}
use Rattle.spec_semantics.specs.Equations.{at, enter, cycle}
use Rattle.spec_semantics.specs.Way.{Distinct, Path}
use Rattle.spec_semantics.proofs.Results.{A_C, B_C, seq_class_C, if_class_C, C_stops}
use Rattle.spec_semantics.proofs.Distinct.{snoc_cases, distinct_snoc, distinct_length}

-- Numbers that s, whose first number is n, may perform on a way that begins with its start.
Started : Stmt → ℕ → ℕ → Type 0
Started (act a) n y = y ≡ n
Started wait n y = y ≡ n
Started (if_then e a) n y = (y ≡ n) ⊎ Started a (suc n) y
Started (if_else e a b) n y = (y ≡ n) ⊎ (Started a (suc n) y ⊎ Started b (suc n + size a) y)
Started (while e b) n y = (y ≡ n) ⊎ Started b (suc n) y
Started (seq a b) n y = Started a n y ⊎ ((class_of a ≡ C → ⊥) × Started b (n + size a) y)

-- Numbers that it may perform on a way that passes it.
Passing : Stmt → ℕ → ℕ → Type 0
Passing (act a) n y = y ≡ n
Passing wait n y = ⊥
Passing (if_then e a) n y = (y ≡ n) ⊎ Passing a (suc n) y
Passing (if_else e a b) n y = ((class_of (if_else e a b) ≡ C → ⊥) × (y ≡ n)) ⊎ (Passing a (suc n) y ⊎ Passing b (suc n + size a) y)
Passing (while e b) n y = (y ≡ n) ⊎ Passing b (suc n) y
Passing (seq a b) n y = ((class_of b ≡ C → ⊥) × Passing a n y) ⊎ Passing b (n + size a) y

Inside : Stmt → ℕ → ℕ → Type 0
Inside s n y = (n ≤ y) × (y < n + size s)

started_inside : (s : Stmt) (n y : ℕ) → Started s n y → Inside s n y
unfolding Started Inside size
started_inside (act a) n y h = omega arith
started_inside wait n y h = omega arith
started_inside (if_then e a) n y (inl h) = omega arith
started_inside (if_then e a) n y (inr h) = let p = started_inside a (suc n) y h in omega arith
started_inside (if_else e a b) n y (inl h) = omega arith
started_inside (if_else e a b) n y (inr (inl h)) = let p = started_inside a (suc n) y h in omega arith
started_inside (if_else e a b) n y (inr (inr h)) = let p = started_inside b (suc n + size a) y h in omega arith
started_inside (while e b) n y (inl h) = omega arith
started_inside (while e b) n y (inr h) = let p = started_inside b (suc n) y h in omega arith
started_inside (seq a b) n y (inl h) = let p = started_inside a n y h in omega arith
started_inside (seq a b) n y (inr h) = let p = started_inside b (n + size a) y h.1 in omega arith

passing_inside : (s : Stmt) (n y : ℕ) → Passing s n y → Inside s n y
unfolding Passing Inside size
passing_inside (act a) n y h = omega arith
passing_inside wait n y h = absurd h
passing_inside (if_then e a) n y (inl h) = omega arith
passing_inside (if_then e a) n y (inr h) = let p = passing_inside a (suc n) y h in omega arith
passing_inside (if_else e a b) n y (inl h) = let p = h.1 in omega arith
passing_inside (if_else e a b) n y (inr (inl h)) = let p = passing_inside a (suc n) y h in omega arith
passing_inside (if_else e a b) n y (inr (inr h)) = let p = passing_inside b (suc n + size a) y h in omega arith
passing_inside (while e b) n y (inl h) = omega arith
passing_inside (while e b) n y (inr h) = let p = passing_inside b (suc n) y h in omega arith
passing_inside (seq a b) n y (inl h) = let p = passing_inside a n y h.1 in omega arith
passing_inside (seq a b) n y (inr h) = let p = passing_inside b (n + size a) y h in omega arith

-- ranges of two parts are apart
apart : (a b : Stmt) (n y : ℕ) → Inside a n y → Inside b (n + size a) y → ⊥
unfolding Inside
apart a b n y p q = omega arith

-- A number of a statement of class C is not on both kinds of ways.
C_apart : (s : Stmt) → class_of s ≡ C → (n y : ℕ) → Started s n y → Passing s n y → ⊥
unfolding Started Passing Inside class_of
C_apart (act a) c n y s p = A_C c
C_apart wait c n y s p = p
C_apart (if_then e a) c n y s p = A_C (if_class_C (class_of a) A c).1
C_apart (if_else e a b) c n y s (inl p) = p.0 c
C_apart (if_else e a b) c n y (inl s) (inr (inl p)) = let q = passing_inside a (suc n) y p in omega arith
C_apart (if_else e a b) c n y (inl s) (inr (inr p)) = let q = passing_inside b (suc n + size a) y p in omega arith
C_apart (if_else e a b) c n y (inr (inl s)) (inr (inl p)) = C_apart a (if_class_C (class_of a) (class_of b) c).0 (suc n) y s p
C_apart (if_else e a b) c n y (inr (inl s)) (inr (inr p)) = apart a b (suc n) y (started_inside a (suc n) y s) (passing_inside b (suc n + size a) y p)
C_apart (if_else e a b) c n y (inr (inr s)) (inr (inl p)) = apart a b (suc n) y (passing_inside a (suc n) y p) (started_inside b (suc n + size a) y s)
C_apart (if_else e a b) c n y (inr (inr s)) (inr (inr p)) = C_apart b (if_class_C (class_of a) (class_of b) c).1 (suc n + size a) y s p
C_apart (while e b) c n y s p = B_C c
C_apart (seq a b) c n y (inl s) (inl p) =
    ⊎_elim (λ ca. C_apart a ca n y s p.1) (λ cb. p.0 cb) (seq_class_C (class_of a) (class_of b) c)
C_apart (seq a b) c n y (inl s) (inr p) = apart a b n y (started_inside a n y s) (passing_inside b (n + size a) y p)
C_apart (seq a b) c n y (inr s) (inl p) = apart a b n y (passing_inside a n y p.1) (started_inside b (n + size a) y s.1)
C_apart (seq a b) c n y (inr s) (inr p) =
    ⊎_elim (λ ca. s.0 ca) (λ cb. C_apart b cb (n + size a) y s.1 p) (seq_class_C (class_of a) (class_of b) c)

-- The way after a statement: none twice, and besides those of u only numbers of S; where the statement is passed, also of P.
abbrev Went : (ℕ → Type 0) → (ℕ → Type 0) → List ℕ → Result → Type 0
Went S P u (passed τ) = Distinct τ.way × ((y : ℕ) → Memᴰ y τ.way → Memᴰ y u ⊎ (S y × P y))
Went S P u (reached p τ) = Distinct τ.way × ((y : ℕ) → Memᴰ y τ.way → Memᴰ y u ⊎ S y)
Went S P u (refused q n) = Unit {0}

went_map : (S P S' P' : ℕ → Type 0) (u u' : List ℕ) (r : Result) → Went S P u r
    → ((τ : Run) → r ≡ passed τ → (y : ℕ) → Memᴰ y u ⊎ (S y × P y) → Memᴰ y u' ⊎ (S' y × P' y))
    → ((y : ℕ) → Memᴰ y u ⊎ S y → Memᴰ y u' ⊎ S' y) → Went S' P' u' r
went_map S P S' P' u u' (passed τ) h f g = (h.0, λ y m. f τ refl y (h.1 y m))
went_map S P S' P' u u' (reached p τ) h f g = (h.0, λ y m. g y (h.1 y m))
went_map S P S' P' u u' (refused q n) h f g = tt

went_then : (S P S' P' : ℕ → Type 0) (u : List ℕ) (r : Result) (k : Run → Result) → Went S P u r → ((y : ℕ) → S y → S' y)
    → ((τ : Run) → r ≡ passed τ → Distinct τ.way → ((y : ℕ) → Memᴰ y τ.way → Memᴰ y u ⊎ (S y × P y)) → Went S' P' u (k τ))
    → Went S' P' u (then r k)
unfolding then
went_then S P S' P' u (passed τ) k h f g = g τ refl h.0 h.1
went_then S P S' P' u (reached p τ) k h f g = (h.0, λ y m. ⊎_elim inl (λ s. inr (f y s)) (h.1 y m))
went_then S P S' P' u (refused q n) k h f g = tt

went_tested : (S P : ℕ → Type 0) (u : List ℕ) (v : Out Bool) (n : ℕ) (σ : Run) (f g : Run → Result)
    → Went S P u (f (log n σ)) → Went S P u (g (log n σ)) → Went S P u (tested v n σ f g)
unfolding tested
went_tested S P u (fine true) n σ f g hf hg = hf
went_tested S P u (fine false) n σ f g hf hg = hg
went_tested S P u (fault q) n σ f g hf hg = tt

went_acted : (S P : ℕ → Type 0) (v : Out Memory) (n : ℕ) (σ : Run) → Distinct σ.way → (Memᴰ n σ.way → ⊥) → ((y : ℕ) → y ≡ n → S y × P y)
    → Went S P σ.way (acted v n σ)
unfolding acted
went_acted S P (fine m) n σ d new h = (distinct_snoc σ.way n d new, λ y k. ⊎_elim inl (λ e. inr (h y e)) (snoc_cases y n σ.way k))
went_acted S P (fault q) n σ d new h = tt

went_pick : (S P : ℕ → Type 0) (u : List ℕ) (b : Bool) (x y : Result) → Went S P u x → Went S P u y → Went S P u (pick b x y)
unfolding pick
went_pick S P u true x y hx hy = hx
went_pick S P u false x y hx hy = hy

-- a statement that is passed right after its test n
went_test : (S P : ℕ → Type 0) (n : ℕ) (σ : Run) → Distinct σ.way → (Memᴰ n σ.way → ⊥) → ((y : ℕ) → y ≡ n → S y × P y)
    → Went S P σ.way (passed (log n σ))
unfolding log
went_test S P n σ d new h = (distinct_snoc σ.way n d new, λ y m. ⊎_elim inl (λ e. inr (h y e)) (snoc_cases y n σ.way m))

-- A part a at suc n, started after the test n of the statement: what holds of its way holds of the statement's.
module _ (S P S' P' : ℕ → Type 0) (n : ℕ) (σ : Run) (a : Run → Result)
    (distinct : Distinct σ.way) (new : (y : ℕ) → Memᴰ y σ.way → S' y → ⊥)
    (test : S' n) (part : (y : ℕ) → S y → S' y) (above : (y : ℕ) → S y → n < y)
    (go : Distinct (log n σ).way → ((y : ℕ) → Memᴰ y (log n σ).way → S y → ⊥) → Went S P (log n σ).way (a (log n σ)))
    (pass : (τ : Run) → a (log n σ) ≡ passed τ → (y : ℕ) → (y ≡ n) ⊎ P y → P' y) where
  went_branch : Went S' P' σ.way (a (log n σ))
  unfolding log
  went_branch =
      went_map S P S' P' _ σ.way (a (log n σ)) (go logged fresh) (λ τ e y. passing τ e y)
      (λ y. ⊎_elim (λ m. old y (snoc_cases y n σ.way m)) (λ s. inr (part y s)))
    where
      logged : Distinct (log n σ).way
      logged = distinct_snoc σ.way n distinct (λ m. new n m test)

      fresh : (y : ℕ) → Memᴰ y (log n σ).way → S y → ⊥
      fresh y m s = ⊎_elim (λ k. new y k (part y s)) (λ e. let p = above y s in omega arith) (snoc_cases y n σ.way m)

      old : (y : ℕ) → Memᴰ y σ.way ⊎ (y ≡ n) → Memᴰ y σ.way ⊎ S' y
      old y (inl m) = inl m
      old y (inr e) = inr (rw e test)

      passing : (τ : Run) → a (log n σ) ≡ passed τ → (y : ℕ) → Memᴰ y (log n σ).way ⊎ (S y × P y) → Memᴰ y σ.way ⊎ (S' y × P' y)
      passing τ e y (inl m) = ⊎_elim inl (λ q. inr (rw q test, pass τ e y (inl q))) (snoc_cases y n σ.way m)
      passing τ e y (inr s) = inr (part y s.0, pass τ e y (inr s.1))

-- The way of a statement that is started after numbers that its start does not perform.
start_way : (s : Stmt) → LoopsC s → (n : ℕ) (i : List ℤ) (σ : Run) → Distinct σ.way → ((y : ℕ) → Memᴰ y σ.way → Started s n y → ⊥)
    → Went (Started s n) (Passing s n) σ.way (start s n i σ)
unfolding start Started Passing LoopsC class_of Inside
start_way (act a) g n i σ d new = went_acted (Started (act a) n) (Passing (act a) n) _ n σ d (λ m. new n m refl) (λ y e. (e, e))
start_way wait g n i σ d new = unfold log in
    (distinct_snoc σ.way n d (λ m. new n m refl), λ y m. snoc_cases y n σ.way m)
start_way (if_then e a) g n i σ d new =
    went_tested (Started (if_then e a) n) (Passing (if_then e a) n) σ.way _ n σ _ _
    (went_branch (Started a (suc n)) (Passing a (suc n)) (Started (if_then e a) n) (Passing (if_then e a) n) n σ (λ τ. start a (suc n) i τ) d new (inl refl)
    (λ y s. inr s) (λ y s. (started_inside a (suc n) y s).0) (start_way a g (suc n) i (log n σ)) (λ τ q y p. p))
    (went_test (Started (if_then e a) n) (Passing (if_then e a) n) n σ d (λ m. new n m (inl refl)) (λ y q. (inl q, inl q)))
start_way (if_else e a b) g n i σ d new =
    went_tested (Started (if_else e a b) n) (Passing (if_else e a b) n) σ.way _ n σ _ _
    (went_branch (Started a (suc n)) (Passing a (suc n)) (Started (if_else e a b) n) (Passing (if_else e a b) n) n σ (λ τ. start a (suc n) i τ) d new (inl refl)
    (λ y s. inr (inl s)) (λ y s. (started_inside a (suc n) y s).0) (start_way a g.0 (suc n) i (log n σ))
    (λ τ q y. ⊎_elim (λ z. inl (λ c. C_stops a (if_class_C (class_of a) (class_of b) c).0 (suc n) i _ τ q, z)) (λ p. inr (inl p))))
    (went_branch (Started b (suc n + size a)) (Passing b (suc n + size a)) (Started (if_else e a b) n) (Passing (if_else e a b) n) n σ
    (λ τ. start b (suc n + size a) i τ) d new (inl refl)
    (λ y s. inr (inr s)) (λ y s. let p = started_inside b (suc n + size a) y s in omega arith) (start_way b g.1 (suc n + size a) i (log n σ))
    (λ τ q y. ⊎_elim (λ z. inl (λ c. C_stops b (if_class_C (class_of a) (class_of b) c).1 (suc n + size a) i _ τ q, z)) (λ p. inr (inr p))))
start_way (while e b) g n i σ d new =
    went_tested (Started (while e b) n) (Passing (while e b) n) σ.way _ n σ _ _
    (went_branch (Started b (suc n)) (Passing b (suc n)) (Started (while e b) n) (Passing (while e b) n) n σ (λ τ. start b (suc n) i τ) d new (inl refl)
    (λ y s. inr s) (λ y s. (started_inside b (suc n) y s).0) (start_way b g.1 (suc n) i (log n σ)) (λ τ q y p. p))
    (went_test (Started (while e b) n) (Passing (while e b) n) n σ d (λ m. new n m (inl refl)) (λ y q. (inl q, inl q)))
start_way (seq a b) g n i σ d new =
    went_then (Started a n) (Passing a n) (Started (seq a b) n) (Passing (seq a b) n) σ.way (start a n i σ) _
    (start_way a g.0 n i σ d (λ y m s. new y m (inl s))) (λ y s. inl s)
    (λ τ e d' w. went_map (Started b (n + size a)) (Passing b (n + size a)) (Started (seq a b) n) (Passing (seq a b) n) τ.way σ.way
    (start b (n + size a) i τ)
    (start_way b g.1 (n + size a) i τ d' (λ y m s. ⊎_elim (λ m'. new y m' (inr (λ c. C_stops a c n i σ τ e, s)))
    (λ k. apart a b n y (started_inside a n y k.0) (started_inside b (n + size a) y s)) (w y m)))
    (λ ρ q y. ⊎_elim (λ m. ⊎_elim inl (λ k. inr (inl k.0, inl (λ c. C_stops b c (n + size a) i τ ρ q, k.1))) (w y m))
    (λ k. inr (inr (λ c. C_stops a c n i σ τ e, k.0), inr k.1)))
    (λ y. ⊎_elim (λ m. ⊎_elim inl (λ k. inr (inl k.0)) (w y m)) (λ s. inr (inr (λ c. C_stops a c n i σ τ e, s)))))

none_in : {P : Type 0} (y : ℕ) → Memᴰ y [] → P
none_in y m = absurd (Memᴰ.not-nil m)

-- resumed part of s: what holds of its way, without numbers before, holds of the way of s
went_part : (S P S' P' : ℕ → Type 0) (r : Result) → Went S P [] r → ((y : ℕ) → S y → S' y) → ((y : ℕ) → P y → P' y) → Went S' P' [] r
went_part S P S' P' r h f g = went_map S P S' P' [] [] r h (λ τ e y. ⊎_elim inl (λ k. inr (f y k.0, g y k.1))) (λ y. ⊎_elim inl (λ k. inr (f y k)))

-- The way of a statement that is resumed.
resume_way : (s : Stmt) → LoopsC s → (n p : ℕ) (i : List ℤ) (σ : Run) → σ.way ≡ [] → Went (Inside s n) (Passing s n) [] (resume s n p i σ)
unfolding resume Started Passing Inside size LoopsC Distinct
resume_way (act a) g n p i σ e = (rw e tt, λ y m. inl (rw e at m))
resume_way wait g n p i σ e = (rw e tt, λ y m. inl (rw e at m))
resume_way (if_then c a) g n p i σ e =
    went_part (Inside a (suc n)) (Passing a (suc n)) (Inside (if_then c a) n) (Passing (if_then c a) n) (resume a (suc n) p i σ)
    (resume_way a g (suc n) p i σ e) (λ y h. omega arith) (λ y h. inr h)
resume_way (if_else c a b) g n p i σ e =
    went_pick (Inside (if_else c a b) n) (Passing (if_else c a b) n) [] (has a (suc n) p) _ _
    (went_part (Inside a (suc n)) (Passing a (suc n)) (Inside (if_else c a b) n) (Passing (if_else c a b) n) (resume a (suc n) p i σ)
    (resume_way a g.0 (suc n) p i σ e) (λ y h. omega arith) (λ y h. inr (inl h)))
    (went_part (Inside b (suc n + size a)) (Passing b (suc n + size a)) (Inside (if_else c a b) n) (Passing (if_else c a b) n)
    (resume b (suc n + size a) p i σ) (resume_way b g.1 (suc n + size a) p i σ e) (λ y h. omega arith) (λ y h. inr (inr h)))
resume_way (while c b) g n p i σ e =
    went_then (Inside b (suc n)) (Passing b (suc n)) (Inside (while c b) n) (Passing (while c b) n) [] (resume b (suc n) p i σ) _
    (resume_way b g.1 (suc n) p i σ e) (λ y h. omega arith)
    (λ τ q d w. went_map (Started (while c b) n) (Passing (while c b) n) _ _ τ.way [] (start (while c b) n i τ)
    (start_way (while c b) g n i τ d (λ y m s. ⊎_elim (none_in y) (λ k. again y k.0 k.1 s) (w y m)))
    (λ ρ q y. ⊎_elim (λ m. ⊎_elim inl (λ k. inr (wide y k.0, inr k.1)) (w y m)) (λ k. inr (started_inside (while c b) n y k.0, k.1)))
    (λ y. ⊎_elim (λ m. ⊎_elim inl (λ k. inr (wide y k.0)) (w y m)) (λ s. inr (started_inside (while c b) n y s))))
  where
    wide : (y : ℕ) → Inside b (suc n) y → Inside (while c b) n y
    wide y h = omega arith

    again : (y : ℕ) → Inside b (suc n) y → Passing b (suc n) y → Started (while c b) n y → ⊥
    again y h k (inl q) = omega arith
    again y h k (inr s) = C_apart b g.0 (suc n) y s k
resume_way (seq a b) g n p i σ e =
    went_pick (Inside (seq a b) n) (Passing (seq a b) n) [] (has a n p) _ _
    (went_then (Inside a n) (Passing a n) (Inside (seq a b) n) (Passing (seq a b) n) [] (resume a n p i σ) _
    (resume_way a g.0 n p i σ e) wide
    (λ τ q d w. went_map (Started b (n + size a)) (Passing b (n + size a)) _ _ τ.way [] (start b (n + size a) i τ)
    (start_way b g.1 (n + size a) i τ d (λ y m s. ⊎_elim (none_in y) (λ k. apart a b n y k.0 (started_inside b (n + size a) y s)) (w y m)))
    (λ ρ q y. ⊎_elim (λ m. ⊎_elim inl (λ k. inr (wide y k.0, inl (λ c. C_stops b c (n + size a) i τ ρ q, k.1))) (w y m))
    (λ k. inr (wide' y (started_inside b (n + size a) y k.0), inr k.1)))
    (λ y. ⊎_elim (λ m. ⊎_elim inl (λ k. inr (wide y k.0)) (w y m)) (λ s. inr (wide' y (started_inside b (n + size a) y s))))))
    (went_part (Inside b (n + size a)) (Passing b (n + size a)) (Inside (seq a b) n) (Passing (seq a b) n) (resume b (n + size a) p i σ)
    (resume_way b g.1 (n + size a) p i σ e) wide' (λ y h. inr h))
  where
    wide : (y : ℕ) → Inside a n y → Inside (seq a b) n y
    wide y h = omega arith

    wide' : (y : ℕ) → Inside b (n + size a) y → Inside (seq a b) n y
    wide' y h = omega arith

-- The way of a cycle.

enter_way : (s : Stmt) → LoopsC s → (q : Place) (i : List ℤ) (σ : Run) → σ.way ≡ [] → Went (Inside s 0) (Passing s 0) [] (enter s q i σ)
unfolding enter Distinct
enter_way s g beginning i σ e =
    went_map (Started s 0) (Passing s 0) _ _ σ.way [] (start s 0 i σ) (start_way s g 0 i σ (rw e tt) (λ y m h. none_in y (rw e at m)))
    (λ τ q y. ⊎_elim (λ m. inl (rw e at m)) (λ k. inr (started_inside s 0 y k.0, k.1)))
    (λ y. ⊎_elim (λ m. inl (rw e at m)) (λ k. inr (started_inside s 0 y k)))
enter_way s g (at p) i σ e = resume_way s g 0 p i σ e

cycle_went : (s : Stmt) → LoopsC s → class_of s ≡ C → (q : Place) (i : List ℤ) (σ : Run) → σ.way ≡ [] → Went (Inside s 0) (Passing s 0) [] (cycle s q i σ)
unfolding cycle
cycle_went s g c q i σ e =
    went_then (Inside s 0) (Passing s 0) (Inside s 0) (Passing s 0) [] (enter s q i σ) _ (enter_way s g q i σ e) (λ y h. h)
    (λ τ r d w. went_map (Started s 0) (Passing s 0) _ _ τ.way [] (start s 0 i τ)
    (start_way s g 0 i τ d (λ y m h. ⊎_elim (none_in y) (λ k. C_apart s c 0 y h k.1) (w y m)))
    (λ ρ q y. ⊎_elim (w y) (λ k. inr (started_inside s 0 y k.0, k.1)))
    (λ y. ⊎_elim (λ m. ⊎_elim inl (λ k. inr k.0) (w y m)) (λ k. inr (started_inside s 0 y k))))

-- No statement comes twice on the way of a cycle, and it is at most as long as the body has statements; from any place.
pub cycle_way : (s : Stmt) → LoopsC s → class_of s ≡ C → (q : Place) (i : List ℤ) (σ τ : Run) (p : ℕ) → σ.way ≡ [] → cycle s q i σ ≡ reached p τ
    → Path s τ.way
unfolding Inside
cycle_way s g c q i σ τ p e r = go (cycle s q i σ) r (cycle_went s g c q i σ e)
  where
    path : Distinct τ.way × ((y : ℕ) → Memᴰ y τ.way → Memᴰ y [] ⊎ Inside s 0 y) → Path s τ.way
    path h =
        let below : (y : ℕ) → Memᴰ y τ.way → y < size s = λ y m. ⊎_elim (none_in y) (λ k. omega arith) (h.1 y m) in
        record { inside = below; distinct = h.0; short = distinct_length (size s) τ.way h.0 below }

    go : (r : Result) → r ≡ reached p τ → Went (Inside s 0) (Passing s 0) [] r → Path s τ.way
    go r e h = path (rw e at h)
