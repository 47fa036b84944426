-- The header by position is that of the text's process: the places that the front end hands out have the names of its outputs. Assumes nothing.
use mathlib.Core.Path.{◌≡◌, refl}
use mathlib.Core.List.{List, [], ◌∷◌, ◌++◌, map}
use Prim.Native.Nat.{ℕ, zero, suc, ◌+◌, ◌*◌, ◌≤◌, min}
use native.Mathlib.Omega.{arith}
use lib.ListN.{length, length-append}
use Rattle.spec_design.specs.Process.{Slot, Process}
use Rattle.spec_design.specs.Spelling.{name_bytes}
use Rattle.spec_language.specs.Bytes.{bytes}
use Rattle.spec_language.proofs.NameBytes.{name_short}
use Rattle.base_ir.specs.declared.Declared.{Declared}
use Rattle.base_ir.specs.Arrays.{Bounded}
use Rattle.front_accept.specs.Designs.{spellings, Spelled}
use Rattle.trace_header.specs.Header.{labelled, header_of}
use Rattle.trace_header.specs.Positions.{label_at, labels_from, header_at}

-- the labels from index k on
labels_are : (text starts sizes : List ℕ) (ss : List Slot) (k c : ℕ) → spellings text starts sizes k c ≡ map name_bytes (map (λ (s : Slot). s.name) ss)
    → labels_from (label_at text starts sizes) k c ≡ labelled ss
unfolding spellings labels_from labelled
labels_are text starts sizes [] k zero e = refl
labels_are text starts sizes [] k (suc c) e = absurd (let z : ◌≡◌ {A = ℕ} 0 1 = cc in omega arith)
labels_are text starts sizes (s ∷ ss) k zero e = absurd (let z : ◌≡◌ {A = ℕ} 0 1 = cc in omega arith)
labels_are text starts sizes (s ∷ ss) k (suc c) e = rw (head e, labels_are text starts sizes ss (k + 1) c (tail e))
  where
    head : {x y : List ℕ} {xs ys : List (List ℕ)} → x ∷ xs ≡ y ∷ ys → x ≡ y
    head q = cc

    tail : {x y : List ℕ} {xs ys : List (List ℕ)} → x ∷ xs ≡ y ∷ ys → xs ≡ ys
    tail q = cc

-- THE LAW: the header by position is that of the process whose names are spelled there
pub header_is : (text : List ℕ) (p : Process) (d : Declared) → Spelled text p d → Bounded d → header_at text d.outputs ≡ header_of p
unfolding header_at header_of
header_is text p d s b =
    let h = b.3 in
    let m : min d.outputs.count 32 ≡ d.outputs.count = omega arith in
    rw (m, labels_are text d.outputs.starts d.outputs.sizes p.outputs 0 d.outputs.count s.outputs)

-- SIZES

labelled_short : (ss : List Slot) → length (labelled ss) ≤ 33 * length ss
unfolding labelled
labelled_short [] = omega arith
labelled_short (s ∷ ss) =
    let a = labelled_short ss in
    let b = name_short s.name in
    let c = length-append (name_bytes s.name) (labelled ss) in
    omega arith

-- 16 outputs make at most 545 bytes
pub header_short : (p : Process) → length p.outputs ≤ 16 → length (header_of p) ≤ 545
unfolding header_of bytes
header_short p h =
    let a = labelled_short p.outputs in
    let b = length-append (labelled p.outputs) (10 ∷ []) in
    let c = length-append (bytes "cycle wait lines") (labelled p.outputs ++ (10 ∷ [])) in
    omega arith
