-- What a turn of the loop over a line's operations keeps: the rest of the code answers what the whole answers. Assumes nothing.
use Prim.Native.Nat.{ℕ, zero, suc, ◌+◌, ◌≤◌, ◌<◌}
use native.Mathlib.Omega.{arith}
use mathlib.Core.Path.{◌≡◌, sym, ap, ◌∙◌}
use mathlib.Core.Option.{Option}
use mathlib.Core.List.{List}
use lib.ListN.{length, get_or}
use mir.Syntax.{w8}
use mir.Val.{Fits}
use borrow.Author.Tests.{ne_eqb}
use lib.Dec.{eqb}
use Rattle.std.specs.Bool.{then_some}
use Rattle.base_codes.specs.Operation.{width_of}
use Rattle.std.specs.Prelude.{None, Some}
use Rattle.base_codes.specs.Limit.{ITEMS}
use Rattle.spec_format.specs.Code.{run}
use Rattle.base_codes.specs.Stack.{stack_of}
use Rattle.image_loader.specs.Code.{Tag, tagged, input_types, variable_types, code_type, step_at, Stepped}
use Rattle.image_loader.proofs.NameTypes.{all_bytes}
use Rattle.image_loader.proofs.CodeLaws.{code_tags, on_step, rest_of, rest_turn, rest_out, rest_end}

module _ (sig s : List ℕ) where
  -- the type of the whole code
  abbrev answer : Tag
  answer = tagged (code_type (input_types sig) (variable_types sig) s)

  -- l operations are left, from the place `at` on, with a stack of depth d in the array a
  pub record Left (a : List ℕ) (at d l : ℕ) : Type 0 where
    pub same : rest_of (input_types sig) (variable_types sig) s l at (stack_of 0 a d) ≡ answer
    pub room : d + l ≤ ITEMS
    pub size : length a ≡ ITEMS

  pub left_first : (a : List ℕ) → length a ≡ ITEMS → Left a 0 0 ITEMS
  unfolding stack_of
  left_first a z = record { same = sym (code_tags (input_types sig) (variable_types sig) s); room = omega arith; size = z }

  -- the operation at the place `at` on the stack of depth d in the array a
  abbrev step : List ℕ → ℕ → ℕ → Option (List ℕ)
  step a at d = step_at (input_types sig) (variable_types sig) s at (get_or s at 0) (stack_of 0 a d)

  pub left_again : ((i : ℕ) → Fits w8 (get_or s i 0)) → {a b : List ℕ} (at d l : ℕ) {k r w : ℕ} → Left a at d k → at < length s → k ≡ suc l
      → Stepped (step a at d) d b (Some r) → w ≡ width_of (get_or s at 0) → Left b (at + w) r l
  left_again f {a} {b} at d l {k} {r} {w} p h n q e =
      let y = p.room in
      let x : r ≤ d + 1 = q.depth in
      record {
        same =
            rw e
            (sym (rest_turn (input_types sig) (variable_types sig) s (all_bytes s f) l at (stack_of 0 a d) h
            ∙ ap (λ o. on_step o (λ u. rest_of (input_types sig) (variable_types sig) s l (at + width_of (get_or s at 0)) u)) (sym q.same)) ∙ (rw n at p.same));
        room = omega arith;
        size = q.size;
      }

  pub left_stop : ((i : ℕ) → Fits w8 (get_or s i 0)) → {a b : List ℕ} (at d l : ℕ) {k : ℕ} → Left a at d k → at < length s → k ≡ suc l
      → Stepped (step a at d) d b None → None ≡ answer
  left_stop f {a} {b} at d l p h n q =
      sym (rest_turn (input_types sig) (variable_types sig) s (all_bytes s f) l at (stack_of 0 a d) h
      ∙ ap (λ o. on_step o (λ u. rest_of (input_types sig) (variable_types sig) s l (at + width_of (get_or s at 0)) u)) (sym q.same)) ∙ (rw n at p.same)

  pub left_spent : {a : List ℕ} (at d l : ℕ) → Left a at d l → at < length s → l ≡ 0 → None ≡ answer
  left_spent {a} at d l p h e = sym (rest_out (input_types sig) (variable_types sig) s at (stack_of 0 a d) h) ∙ (rw e at p.same)

  -- one value is left, or code that is no expression's
  pub left_end : {a : List ℕ} (at d l : ℕ) → Left a at d l → length s ≤ at → then_some (eqb d 1) (get_or a 0 0) ≡ answer
  unfolding stack_of run
  left_end {a} at zero l p h = sym (rest_end (input_types sig) (variable_types sig) s l at (stack_of 0 a 0) h) ∙ p.same
  left_end {a} at (suc zero) l p h = sym (rest_end (input_types sig) (variable_types sig) s l at (stack_of 0 a 1) h) ∙ p.same
  left_end {a} at (suc (suc d)) l p h =
      rw (ne_eqb (suc (suc d)) 1 (λ e. omega arith)) (sym (rest_end (input_types sig) (variable_types sig) s l at (stack_of 0 a (suc (suc d))) h) ∙ p.same)
