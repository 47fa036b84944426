-- Numbers of two and four bytes and 32-bit integers are read back from their bytes, and bytes from their numbers: by linear arithmetic. Assumes nothing.
use Prim.Native.Nat.{ℕ, zero, suc, ◌+◌, ◌-◌, ◌*◌, ◌/◌, ◌%◌, ◌≤◌, ◌<◌}
use native.Mathlib.Omega.{arith}
use native.Mathlib.Decide.{dec_lt}
use mathlib.Core.Path.{◌≡◌, refl, ap, ◌∙◌}
use mathlib.Core.Bool.{Bool, true, false, cond, ◌||◌}
use mathlib.Core.List.{List, [], ◌∷◌, ◌++◌}
use lib.ListN.{get_or, take, drop}
use lib.IntN.{ℤ, pos, negsuc}
use lib.Dec.{ltb, leb}
use borrow.Author.Tests.{ltb-true, ltb-false, leb-true, lt-ltb, le-ltb, le-leb}
use Rattle.spec_design.specs.Types.{Ty, std_logic, integer, eq_z, in_range, in_type}
use Rattle.spec_semantics.proofs.Basic.{and_left, eq_z_true}
use Rattle.spec_format.specs.Words.{Bytes, word2, word4, bytes2, bytes4}
use Rattle.spec_semantics.specs.Twos.{signed32, unsigned32}

-- Numbers.

pub word2_bytes2 : (n : ℕ) → n < 65536 → word2 (n % 256) (n / 256 % 256) ≡ n
word2_bytes2 n h = omega arith

pub word4_bytes4 : (n : ℕ) → n < 4294967296 → word4 (n % 256) (n / 256 % 256) (n / 256 / 256 % 256) (n / 256 / 256 / 256 % 256) ≡ n
word4_bytes4 n h = omega arith

-- the lowest byte and the rest of a number
pub byte_rest : (a n : ℕ) → a < 256 → ((a + n * 256) % 256 ≡ a) × ((a + n * 256) / 256 ≡ n)
byte_rest a n h = go (dec_lt ((a + n * 256) / 256) n) (dec_lt n ((a + n * 256) / 256))
  where
    go : Dec ((a + n * 256) / 256 < n) → Dec (n < (a + n * 256) / 256) → ((a + n * 256) % 256 ≡ a) × ((a + n * 256) / 256 ≡ n)
    go (yes p) d = absurd (omega arith)
    go (no p) (yes q) = absurd (omega arith)
    go (no p) (no q) = let e : (a + n * 256) / 256 ≡ n = omega arith in (omega arith, e)

byte_itself : (a : ℕ) → a < 256 → a % 256 ≡ a
byte_itself a h = omega arith

pub bytes2_word2 : (a b : ℕ) → a < 256 → b < 256 → bytes2 (word2 a b) ≡ a ∷ b ∷ []
bytes2_word2 a b ha hb = rw ((byte_rest a b ha).0, (byte_rest a b ha).1, byte_itself b hb)

-- a number's two bytes in front of others
pub bytes2_front : (a b : ℕ) {r q : List ℕ} → a < 256 → b < 256 → r ≡ q → bytes2 (word2 a b) ++ r ≡ a ∷ b ∷ q
bytes2_front a b {r} ha hb e = ap (λ l. l ++ r) (bytes2_word2 a b ha hb) ∙ ap (λ z. a ∷ b ∷ z) e

pub bytes4_word4 : (a b c d : ℕ) → a < 256 → b < 256 → c < 256 → d < 256 → bytes4 (word4 a b c d) ≡ a ∷ b ∷ c ∷ d ∷ []
bytes4_word4 a b c d ha hb hc hd =
    rw (
      (byte_rest a (b + (c + d * 256) * 256) ha).0,
      (byte_rest a (b + (c + d * 256) * 256) ha).1,
      (byte_rest b (c + d * 256) hb).0,
      (byte_rest b (c + d * 256) hb).1,
      (byte_rest c d hc).0,
      (byte_rest c d hc).1,
      byte_itself d hd,
    )

pub word2_small : (a b : ℕ) → a < 256 → b < 256 → word2 a b < 65536
word2_small a b ha hb = omega arith

pub word4_small : (a b c d : ℕ) → a < 256 → b < 256 → c < 256 → d < 256 → word4 a b c d < 4294967296
word4_small a b c d ha hb hc hd = omega arith

-- Integers.

range_pos : (n : ℕ) → in_range (pos n) ≡ true → n ≤ 2147483647
unfolding in_range
range_pos n h = leb-true n 2147483647 h

range_neg : (n : ℕ) → in_range (negsuc n) ≡ true → n ≤ 2147483647
unfolding in_range
range_neg n h = leb-true n 2147483647 (and_left (leb n 2147483647) true h)

pub unsigned_small : (z : ℤ) → in_range z ≡ true → unsigned32 z < 4294967296
unsigned_small (pos n) h = omega (arith, range_pos n h)
unsigned_small (negsuc n) h = omega arith

signed_unsigned : (z : ℤ) → in_range z ≡ true → signed32 (unsigned32 z) ≡ z
signed_unsigned (pos n) h = rw (lt-ltb n 2147483648 (omega (arith, range_pos n h)))
signed_unsigned (negsuc n) h =
    let b = range_neg n h in
    let e : 4294967295 - (4294967295 - n) ≡ n = omega arith in
    rw (le-ltb (4294967295 - n) 2147483648 (omega arith), e)

pub unsigned_signed : (n : ℕ) → n < 4294967296 → unsigned32 (signed32 n) ≡ n
unsigned_signed n h = go (ltb n 2147483648)
  where
    go : (b : Bool) → unsigned32 (cond b (pos n) (negsuc (4294967295 - n))) ≡ n
    go true = refl
    go false = omega arith

pub signed_range : (n : ℕ) → n < 4294967296 → in_range (signed32 n) ≡ true
unfolding in_range
signed_range n h = go (ltb n 2147483648) refl
  where
    go : (b : Bool) → ltb n 2147483648 ≡ b → in_range (cond b (pos n) (negsuc (4294967295 - n))) ≡ true
    go true e = let q = ltb-true n 2147483648 e in le-leb n 2147483647 (omega arith)
    go false e = let q = ltb-false n 2147483648 e in rw (le-leb (4294967295 - n) 2147483647 (omega arith))

-- an integer read back from its four bytes
pub integer_bytes : (z : ℤ) → in_range z ≡ true
    → signed32 (word4 (unsigned32 z % 256) (unsigned32 z / 256 % 256) (unsigned32 z / 256 / 256 % 256) (unsigned32 z / 256 / 256 / 256 % 256)) ≡ z
integer_bytes z h = ap signed32 (word4_bytes4 (unsigned32 z) (unsigned_small z h)) ∙ signed_unsigned z h

-- four bytes read back from their integer
pub bytes_integer : (a b c d : ℕ) → a < 256 → b < 256 → c < 256 → d < 256 → bytes4 (unsigned32 (signed32 (word4 a b c d))) ≡ a ∷ b ∷ c ∷ d ∷ []
bytes_integer a b c d ha hb hc hd = ap bytes4 (unsigned_signed (word4 a b c d) (word4_small a b c d ha hb hc hd)) ∙ bytes4_word4 a b c d ha hb hc hd

-- a value of any type is a 32-bit integer
pub type_range : (t : Ty) (z : ℤ) → in_type t z ≡ true → in_range z ≡ true
unfolding in_type in_range
type_range std_logic z h = go (eq_z z (pos 0)) refl h
  where
    go : (b : Bool) → eq_z z (pos 0) ≡ b → (b || eq_z z (pos 1)) ≡ true → in_range z ≡ true
    go true e q = rw (eq_z_true z (pos 0) e)
    go false e q = rw (eq_z_true z (pos 1) q)
type_range integer z h = h

-- Lists of bytes.

pub bytes_append : (a b : List ℕ) → Bytes a → Bytes b → Bytes (a ++ b)
unfolding Bytes
bytes_append [] b h g = g
bytes_append (k ∷ a) b h g = (h.0, bytes_append a b h.1 g)

pub bytes_left : (a b : List ℕ) → Bytes (a ++ b) → Bytes a
unfolding Bytes
bytes_left [] b h = tt
bytes_left (k ∷ a) b h = (h.0, bytes_left a b h.1)

pub bytes_right : (a b : List ℕ) → Bytes (a ++ b) → Bytes b
unfolding Bytes
bytes_right [] b h = h
bytes_right (k ∷ a) b h = bytes_right a b h.1

pub byte_at : (s : List ℕ) (n : ℕ) → Bytes s → get_or s n 0 < 256
unfolding Bytes
byte_at [] n h = omega arith
byte_at (k ∷ s) zero h = h.0
byte_at (k ∷ s) (suc n) h = byte_at s n h.1

pub bytes_take : (n : ℕ) (s : List ℕ) → Bytes s → Bytes (take n s)
unfolding Bytes
bytes_take zero s h = tt
bytes_take (suc n) [] h = tt
bytes_take (suc n) (k ∷ s) h = (h.0, bytes_take n s h.1)

pub bytes_drop : (n : ℕ) (s : List ℕ) → Bytes s → Bytes (drop n s)
unfolding Bytes
bytes_drop zero s h = h
bytes_drop (suc n) [] h = tt
bytes_drop (suc n) (k ∷ s) h = bytes_drop n s h.1

pub bytes2_bytes : (n : ℕ) → Bytes (bytes2 n)
unfolding Bytes
bytes2_bytes n = (omega arith, (omega arith, tt))

pub bytes4_bytes : (n : ℕ) → Bytes (bytes4 n)
unfolding Bytes
bytes4_bytes n = (omega arith, (omega arith, (omega arith, (omega arith, tt))))
