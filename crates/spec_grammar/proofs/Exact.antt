-- The reader's answer is exactly what is promised, and nothing else is: a text is read exactly where the grammar allows it, in the one way that it allows;
-- 3 stands at the first token that cannot go on, 4 at the first that passes a limit. Assumes nothing.
use mathlib.Core.Path.{◌≡◌, refl, sym, ◌∙◌, subst, ap}
use mathlib.Core.Bool.{Bool, false}
use mathlib.Core.Logic.{◌↔◌}
use mathlib.Core.List.{List, [], ◌∷◌, ◌++◌, append_assoc, append-nil}
use Prim.Native.Nat.{ℕ, suc, ◌+◌, ◌-◌, ◌≤◌, ◌<◌}
use native.Mathlib.Omega.{arith}
use native.Mathlib.Decide.{dec_lt}
use lib.ListN.{length, take, drop, length-append, take-append-drop}
use lib.Seq.{take_at, take-append-le, take-append-add, take-take, take-length, append_snoc}
use Rattle.spec_grammar.specs.Token.{Token}
use Rattle.spec_grammar.specs.Tree.{Text}
use Rattle.spec_grammar.specs.Grammar.{text, Mark, Production, productions, text_production}
use Rattle.spec_grammar.specs.Meter.{Meter, zeroes, over}
use Rattle.spec_grammar.specs.Derivation.{◌∈◌, here, there, Tree, by, span, mark, says, Reads}
use Rattle.spec_grammar.specs.Reader.{elem, first, firsts, follow, nullable, nullables, Outcome, read, refused, limited, run, read_text}
use Rattle.spec_grammar.specs.Acceptance.{Begins, Passes, Within, Stops, Answer, accepted, no_sentence, past_limit, Exactly}
use Rattle.spec_grammar.specs.Reader.{placed, answer}
use Rattle.spec_grammar.proofs.Sets.{subset}
use Rattle.spec_grammar.proofs.Trees.{Has}
use Rattle.spec_grammar.proofs.Steps.{Ok, ok_syms, tested}
use Rattle.spec_grammar.proofs.Runs.{Starts, Over, Clear, Cannot, Right, run_right}

pub ok_text : Ok text_production.rhs
unfolding ok_syms text_production firsts first nullables nullable follow subset elem
ok_text = tested text_production.rhs tt

-- A text is derived by the one production that there is.
abbrev HasText : List Token → List Mark → Text → Type 0
HasText ts es v = Has text text_production.rhs text_production.says ts es v

has_reads : (ts : List Token) (es : List Mark) (v : Text) → HasText ts es v → Reads text ts es v
unfolding productions span mark says
has_reads ts es v h = record { tree = by text_production here h.trees; spanned = h.spanned; marked = h.marked; said = h.said }

none : {r : Production text} {qs : List (Production text)} → r ∈ qs → qs ≡ [] → ⊥
none here e = let z : ◌≡◌ {A = ℕ} 0 1 = cc in omega arith
none (there m) e = let z : ◌≡◌ {A = ℕ} 0 1 = cc in omega arith

rest_nil : {q : Production text} {qs : List (Production text)} → q ∷ qs ≡ text_production ∷ [] → qs ≡ []
rest_nil e = cc

only : {r : Production text} {rs : List (Production text)} → r ∈ rs → rs ≡ text_production ∷ [] → r ≡ text_production
only here e = cc
only (there m) e = absurd (none m (rest_nil e))

pub reads_has : (ts : List Token) (es : List Mark) (v : Text) → Reads text ts es v → HasText ts es v
unfolding productions span mark says
reads_has ts es v q = go q.tree q.spanned q.marked q.said
  where
    go : (d : Tree text) → span d ≡ ts → mark d ≡ es → says d ≡ v → HasText ts es v
    go (by r m ds) e f w = subst (λ (s : Production text). Has text s.rhs s.says ts es v) (only m refl)
        (record { trees = ds; spanned = e; marked = f; said = w })

-- From the list of symbols of a text to texts.
abbrev StartsText : List Token → Type 0
StartsText w = Starts text text_production.rhs text_production.says w

abbrev OverText : List Token → Type 0
OverText w = Over over text text_production.rhs text_production.says zeroes w

begins : (w : List Token) → StartsText w → Begins w
begins w s = record { later = s.later; marks = s.es; whole = s.v; reads = has_reads (w ++ s.later) s.es s.v s.has }

starts : (w : List Token) → Begins w → StartsText w
starts w b = record { later = b.later; es = b.marks; v = b.whole; has = reads_has (w ++ b.later) b.marks b.whole b.reads }

passes : (w : List Token) → OverText w → Passes w
unfolding begins
passes w s = record { begins = begins w (record { later = s.later; es = s.es; v = s.v; has = s.has }); over_here = s.passed }

overs : (w : List Token) → Passes w → OverText w
unfolding starts
overs w p = let s : StartsText w = starts w p.begins in record { later = s.later; es = s.es; v = s.v; has = s.has; passed = p.over_here }

-- From what is left to an index.
index : (ts w rest : List Token) → ts ≡ w ++ rest → length w ≡ length ts - length rest
index ts w rest e = omega (arith, simp length-append at (ap length e))

module _ (ts w rest : List Token) (e : ts ≡ w ++ rest) where
  abbrev k : ℕ
  k = length ts - length rest

  take_k : take k ts ≡ w
  take_k = ap (take k) e ∙ take_at w rest k (index ts w rest e)

  take_more : (y : Token) (us : List Token) → rest ≡ y ∷ us → take (suc k) ts ≡ w ++ (y ∷ [])
  take_more y us q =
      ap (take (suc k)) (e ∙ ap (λ (r : List Token). w ++ r) q)
      ∙ (ap (λ (n : ℕ). take n (w ++ (y ∷ us))) next ∙ take-append-add w (y ∷ us) 1)
    where
      next : suc k ≡ length w + 1
      next = omega (arith, index ts w rest e)

  take_less : (j : ℕ) → j < k → take (suc j) ts ≡ take (suc j) w
  take_less j h = ap (take (suc j)) e ∙ take-append-le (suc j) w rest (omega (arith, index ts w rest e))

  within_k : Clear over text text_production.rhs text_production.says zeroes w → Within ts k
  within_k c j h p = c j (omega (arith, index ts w rest e)) (overs (take (suc j) w) (subst Passes (take_less j h) p))

  further : (r : List Token) → rest ≡ r → Cannot text text_production.rhs text_production.says w r → k < length ts → Begins (take (suc k) ts) → ⊥
  further [] q c h b = omega (arith, ap length q)
  further (y ∷ us) q c h b = c (starts (w ++ (y ∷ [])) (subst Begins (take_more y us q) b))

  whole : (r : List Token) → rest ≡ r → Cannot text text_production.rhs text_production.says w r → k ≡ length ts → (es : List Mark) (v : Text)
      → Reads text ts es v → ⊥
  whole [] q c h es v t = c es v (reads_has w es v (subst (λ (l : List Token). Reads text l es v) all t))
    where
      all : ts ≡ w
      all = sym (take-length ts) ∙ (ap (λ (n : ℕ). take n ts) (sym h) ∙ take_k)
  whole (y ∷ us) q c h es v t = omega (arith, ap length q, simp length-append at (ap length e))

  stops : StartsText w → Cannot text text_production.rhs text_production.says w rest → Stops ts k
  stops s c = record {
    in_range = omega arith;
    so_far = subst Begins (sym take_k) (begins w s);
    no_further = further rest refl c;
    unfinished = whole rest refl c;
  }

-- The answer is right.
exact' : (ts : List Token) (o : Outcome Text) → Right over text text_production.rhs text_production.says zeroes ts o → Exactly ts (placed ts o)
unfolding placed
exact' ts (read v) h = (h.es, has_reads ts h.es v h.has, λ j l p. h.clear j l (overs (take (suc j) ts) p))
exact' ts (refused rest) h = (stops ts h.before rest h.parts h.goes_on h.cannot, within_k ts h.before rest h.parts h.clear)
exact' ts (limited rest) h = (
  omega (arith, ap length h.left, simp length-append at (ap length h.parts)),
  subst Passes (sym (take_more ts h.before rest h.parts h.x h.others h.left)) (passes (h.before ++ (h.x ∷ [])) h.passes),
  within_k ts h.before rest h.parts h.clear,
)

pub exact : (ts : List Token) → Exactly ts (answer ts)
unfolding answer read_text
exact ts = exact' ts (read_text over ts) (run_right over ts text zeroes text_production.rhs text_production.says ok_text)

-- A text has one reading, whatever its limits.
never_over : Meter → Bool
never_over c = false

one' : (ts : List Token) (o : Outcome Text) → Right never_over text text_production.rhs text_production.says zeroes ts o → (es fs : List Mark) (u v : Text)
    → HasText ts es u → HasText ts fs v → u ≡ v
unfolding never_over
one' ts (read w) h es fs u v a b = h.one es u a ∙ sym (h.one fs v b)
one' ts (limited rest) h es fs u v a b = absurd h.passes.passed
one' ts (refused []) h es fs u v a b =
    absurd (h.cannot es u (subst (λ (l : List Token). HasText l es u) (h.parts ∙ append-nil h.before) a))
one' ts (refused (y ∷ rest)) h es fs u v a b =
    absurd (h.cannot (record {
      later = rest;
      es = es;
      v = u;
      has = subst (λ (l : List Token). HasText l es u)
          (h.parts ∙ sym (append_snoc h.before y rest)) a;
    }))

pub one_reading : (ts : List Token) (es fs : List Mark) (u v : Text) → Reads text ts es u → Reads text ts fs v → u ≡ v
one_reading ts es fs u v a b =
    one' ts (run never_over ts text zeroes text_production.rhs text_production.says)
    (run_right never_over ts text zeroes text_production.rhs text_production.says ok_text) es fs u v (reads_has ts es u a) (reads_has ts fs v b)

-- Nothing else is right.
shorter : (ts : List Token) (j k : ℕ) → j ≤ k → Begins (take k ts) → Begins (take j ts)
shorter ts j k h b = record {
  later = drop j (take k ts) ++ b.later;
  marks = b.marks;
  whole = b.whole;
  reads = subst (λ (l : List Token). Reads text l b.marks b.whole) same b.reads;
}
  where
    same : take k ts ++ b.later ≡ take j ts ++ (drop j (take k ts) ++ b.later)
    same =
        ap (λ (l : List Token). l ++ b.later) (sym (take-append-drop j (take k ts)))
        ∙ (append_assoc (take j (take k ts)) (drop j (take k ts)) b.later
        ∙ ap (λ (l : List Token). l ++ (drop j (take k ts) ++ b.later)) (take-take j k ts h))

text_begins : (ts : List Token) (es : List Mark) (v : Text) → Reads text ts es v → (k : ℕ) → Begins (take k ts)
text_begins ts es v t k = record {
  later = drop k ts;
  marks = es;
  whole = v;
  reads = subst (λ (l : List Token). Reads text l es v) (sym (take-append-drop k ts)) t;
}

not_both : (ts : List Token) (es : List Mark) (v : Text) (k : ℕ) → Reads text ts es v → Stops ts k → ⊥
not_both ts es v k t s = elim (dec_lt k (length ts))
    [ yes h ↦ s.no_further h (text_begins ts es v t (suc k)) | no h ↦ s.unfinished (at_end_lem h s.in_range) es v t ]
  where
    at_end_lem : {n : ℕ} → ¬ (k < n) → k ≤ n → k ≡ n
    at_end_lem h g = omega arith

same_place : (j k : ℕ) → ¬ (j < k) → ¬ (k < j) → j ≡ k
same_place j k g h = omega arith

two_stops : (ts : List Token) (j k : ℕ) → Stops ts j → Stops ts k → j < k → ⊥
two_stops ts j k s t h = s.no_further (below h t.in_range) (shorter ts (suc j) k h t.so_far)
  where
    below : {n : ℕ} → j < k → k ≤ n → j < n
    below a b = omega arith

stop_and_pass : (ts : List Token) (j k : ℕ) → Stops ts j → Within ts j → k < length ts → Passes (take (suc k) ts) → ⊥
stop_and_pass ts j k s w h p = elim (dec_lt k j)
    [ yes g ↦ w k g p | no g ↦ s.no_further (below g h) (shorter ts (suc j) (suc k) (up g) p.begins) ]
  where
    below : {n : ℕ} → ¬ (k < j) → k < n → j < n
    below a b = omega arith

    up : ¬ (k < j) → suc j ≤ suc k
    up a = omega arith

only_one : (ts : List Token) (a b : Answer) → Exactly ts a → Exactly ts b → a ≡ b
only_one ts (accepted u) (accepted v) p q = ap accepted (one_reading ts p.0 q.0 u v p.1 q.1)
only_one ts (accepted u) (no_sentence k) p q = absurd (not_both ts p.0 u k p.1 q.0)
only_one ts (accepted u) (past_limit k) p q = absurd (p.2 k q.0 q.1)
only_one ts (no_sentence j) (accepted v) p q = absurd (not_both ts q.0 v j q.1 p.0)
only_one ts (no_sentence j) (no_sentence k) p q = ap no_sentence (same_place j k (two_stops ts j k p.0 q.0) (two_stops ts k j q.0 p.0))
only_one ts (no_sentence j) (past_limit k) p q = absurd (stop_and_pass ts j k p.0 p.1 q.0 q.1)
only_one ts (past_limit j) (accepted v) p q = absurd (q.2 j p.0 p.1)
only_one ts (past_limit j) (no_sentence k) p q = absurd (stop_and_pass ts k j q.0 q.1 p.0 p.1)
only_one ts (past_limit j) (past_limit k) p q = ap past_limit (same_place j k (λ h. q.2 j h p.1) (λ h. p.2 k h q.1))

-- THE THEOREM: the answer is a exactly where the paper gives it.
pub answers : (ts : List Token) (a : Answer) → (answer ts ≡ a) ↔ Exactly ts a
answers ts a = ((λ e. subst (Exactly ts) e (exact ts)), λ x. only_one ts (answer ts) a (exact ts) x)
