-- The reaches of a body satisfy document 01's equation at every line, and no others do; every follower is a line. By induction on the statement:
-- the reach of the first line of a statement of class C does not depend on what follows it. Assumes nothing.
use Prim.Native.Nat.{ℕ, suc, ◌+◌, ◌≤◌, ◌<◌, max}
use native.Mathlib.Omega.{arith}
use mathlib.Core.Path.{◌≡◌, refl, sym, ap, ◌∙◌}
use mathlib.Core.Logic.{◌⊎◌, inl, inr}
use mathlib.Core.List.{List}
use lib.ListN.{length, length-append}
use lib.Seq.{ext_get_or}
use Rattle.spec_design.specs.Statement.{Stmt, act, wait, if_then, if_else, while, seq, size, A, C, class_of, LoopsC}
use Rattle.spec_semantics.proofs.Results.{A_C, B_C, seq_class_C, if_class_C, size_pos}
use Rattle.spec_format.specs.Lines.{lines_of, line, reach, reach_of, entry, reaches, reaches_of}
use Rattle.spec_simulation.specs.Ranked.{Followers, Ranked}
use Rattle.spec_simulation.proofs.Lines.{Segment, segment_whole, segment_head, segment_tail, segment_left, segment_right, Each, lines_of_length}
use Rattle.spec_simulation.proofs.Lines.{lines_of_line}
use Rattle.spec_simulation.proofs.Ranked.{ranked_once}

pub reaches_length : (s : Stmt) (r : ℕ) → length (reaches s r) ≡ size s
unfolding reaches size
reaches_length (act a) r = refl
reaches_length wait r = refl
reaches_length (if_then e a) r = ap suc (reaches_length a r)
reaches_length (if_else e a b) r = ap suc (simp (length-append, reaches_length a r, reaches_length b r))
reaches_length (while e b) r = ap suc (reaches_length b _)
reaches_length (seq a b) r = simp (length-append, reaches_length a (entry b r), reaches_length b r)

pub reaches_of_length : (s : Stmt) → length (reaches_of s) ≡ size s
unfolding reaches_of
reaches_of_length s = reaches_length s _

-- the reach of the first line of a statement of class C does not depend on what follows
entry_C : (s : Stmt) → class_of s ≡ C → (x y : ℕ) → entry s x ≡ entry s y
unfolding class_of entry
entry_C (act a) c x y = A_C c
entry_C wait c x y = refl
entry_C (if_then e a) c x y = A_C (if_class_C (class_of a) A c).1
entry_C (if_else e a b) c x y =
    let p = entry_C a (if_class_C (class_of a) (class_of b) c).0 x y in
    let q = entry_C b (if_class_C (class_of a) (class_of b) c).1 x y in
    rw (p, q)
entry_C (while e b) c x y = B_C c
entry_C (seq a b) c x y = go (λ c'. entry_C a c' (entry b x) (entry b y)) (λ c'. entry_C b c' x y) (seq_class_C (class_of a) (class_of b) c)
  where
    go : (class_of a ≡ C → entry a (entry b x) ≡ entry a (entry b y)) → (class_of b ≡ C → entry b x ≡ entry b y) → (class_of a ≡ C) ⊎ (class_of b ≡ C)
        → entry a (entry b x) ≡ entry a (entry b y)
    go ha hb (inl c') = ha c'
    go ha hb (inr c') = ap (entry a) (hb c')

reach_first : (r : List ℕ) (s : Stmt) (n x : ℕ) → Segment r n (reaches s x) → reach r n ≡ entry s x
unfolding reaches entry
reach_first r (act a) n x h = segment_head r n _ _ _ h
reach_first r wait n x h = segment_head r n _ _ _ h
reach_first r (if_then e a) n x h = segment_head r n _ _ _ h
reach_first r (if_else e a b) n x h = segment_head r n _ _ _ h
reach_first r (while e b) n x h = segment_head r n _ _ _ h
reach_first r (seq a b) n x h = reach_first r a n (entry b x) (segment_left r n _ _ h)

-- the equation at every line of s, where x is the reach of the line f that follows s
reaches_at : (r : List ℕ) (s : Stmt) (n f x : ℕ) → LoopsC s → Segment r n (reaches s x) → reach r f ≡ x → Each (λ y l. reach r y ≡ reach_of r l) s n f
unfolding reaches entry Each LoopsC
reaches_at r (act a) n f x g h e = segment_head r n _ _ _ h ∙ ap suc (sym e)
reaches_at r wait n f x g h e = segment_head r n _ _ _ h
reaches_at r (if_then c a) n f x g h e =
    let t = segment_tail r n _ _ h in
    (segment_head r n _ _ _ h ∙ rw (reach_first r a (suc n) x t, e), reaches_at r a (suc n) f x g t e)
reaches_at r (if_else c a b) n f x g h e =
    let t = segment_tail r n _ _ h in
    let u = segment_left r (suc n) _ _ t in
    let v = segment_right r (suc n) (size a) (reaches a x) _ (reaches_length a x) t in (
      segment_head r n _ _ _ h ∙ rw (reach_first r a (suc n) x u, reach_first r b (suc n + size a) x v),
      reaches_at r a (suc n) f x g.0 u e,
      reaches_at r b (suc n + size a) f x g.1 v e,
    )
reaches_at r (while c b) n f x g h e =
    let t = segment_tail r n _ _ h in (
      segment_head r n _ _ _ h ∙ rw (reach_first r b (suc n) _ t, e) (ap (λ z. suc (max z x)) (entry_C b g.0 0 _)),
      reaches_at r b (suc n) n _ g.1 t (segment_head r n _ _ _ h),
    )
reaches_at r (seq a b) n f x g h e =
    let u = segment_left r n _ _ h in
    let v = segment_right r n (size a) (reaches a (entry b x)) _ (reaches_length a (entry b x)) h in (
      reaches_at r a n (n + size a) (entry b x) g.0 u (reach_first r b (n + size a) x v),
      reaches_at r b (n + size a) f x g.1 v e,
    )

reaches_of_first : (s : Stmt) → class_of s ≡ C → reach (reaches_of s) 0 ≡ entry s 0
unfolding reaches_of
reaches_of_first s c = reach_first (reaches_of s) s 0 (entry s 0) (segment_whole _) ∙ entry_C s c _ _

pub reaches_of_each : (s : Stmt) → class_of s ≡ C → LoopsC s → Each (λ x l. reach (reaches_of s) x ≡ reach_of (reaches_of s) l) s 0 0
unfolding reaches_of
reaches_of_each s c g = reaches_at (reaches_of s) s 0 0 (entry s 0) g (segment_whole _) (reaches_of_first s c)

-- every follower of a line of s is among the z lines
lines_followers : (z : ℕ) (s : Stmt) (n f : ℕ) → n + size s ≤ z → f < z → Each (λ x l. Followers z l) s n f
unfolding Each size
lines_followers z (act a) n f h lt = lt
lines_followers z wait n f h lt = lt
lines_followers z (if_then e a) n f h lt = let p = size_pos a in ((omega arith, lt), lines_followers z a (suc n) f (omega arith) lt)
lines_followers z (if_else e a b) n f h lt =
    let p = size_pos a in
    let q = size_pos b in
    ((omega arith, omega arith), lines_followers z a (suc n) f (omega arith) lt, lines_followers z b (suc n + size a) f (omega arith) lt)
lines_followers z (while e b) n f h lt =
    let p = size_pos b in
    ((omega arith, lt), lines_followers z b (suc n) n (omega arith) (omega arith))
lines_followers z (seq a b) n f h lt =
    let p = size_pos b in
    (lines_followers z a n (n + size a) (omega arith) (omega arith), lines_followers z b (n + size a) f (omega arith) lt)

-- The lines and reaches of a body.
pub lines_of_ranked : (s : Stmt) → class_of s ≡ C → LoopsC s → Ranked (lines_of s) (reaches_of s)
lines_of_ranked s c g =
    record {
      long = reaches_of_length s ∙ sym (lines_of_length s);
      followers = rw lines_of_length (lines_of_line (λ x l. Followers (size s) l) s (lines_followers (size s) s 0 0 (omega arith) (size_pos s)));
      reaches = rw lines_of_length (lines_of_line (λ x l. reach (reaches_of s) x ≡ reach_of (reaches_of s) l) s (reaches_of_each s c g));
    }

-- "Reach is 0 for a wait, else 1 plus the larger reach of its followers": at every line.
pub reaches_right : (s : Stmt) → class_of s ≡ C → LoopsC s → (x : ℕ) → x < size s → reach (reaches_of s) x ≡ reach_of (reaches_of s) (line (lines_of s) x)
reaches_right s c g = lines_of_line (λ x l. reach (reaches_of s) x ≡ reach_of (reaches_of s) l) s (reaches_of_each s c g)

-- No other reaches satisfy it.
pub reaches_once : (s : Stmt) → class_of s ≡ C → LoopsC s → (r : List ℕ) → length r ≡ size s
    → ((x : ℕ) → x < size s → reach r x ≡ reach_of r (line (lines_of s) x)) → r ≡ reaches_of s
reaches_once s c g r e h =
    let l = lines_of_length s in
    ext_get_or 0 r (reaches_of s) (e ∙ sym (reaches_of_length s)) (rw (e, ← l) (ranked_once (lines_of s) (reaches_of s) r (lines_of_ranked s c g) (rw l h)))
