-- Bytes and little-endian order: RISC-V Unprivileged ISA manual (20191213), section 1.4, "Memory", and section 2.6, "Load and
-- Store Instructions". A function from ℕ gives the byte at each place. Assumes nothing.
use Rattle.std.specs.Prelude.{ℕ, zero, suc, ◌+◌, ◌-◌, ◌*◌, ◌/◌, ◌%◌, ◌^◌, true, false, ◌&&◌, ltb, leb}

-- byte i of the number v, byte 0 the lowest
unfoldable pub byte_of : ℕ → ℕ → ℕ
byte_of v i = v / 2 ^ (8 * i) % 256

-- the n bytes from place a on as one number, the first byte the lowest
unfoldable pub load_bytes : (ℕ → ℕ) → ℕ → ℕ → ℕ
load_bytes bytes a zero = 0
load_bytes bytes a (suc n) = load_bytes bytes (suc a) n * 256 + bytes a

-- the bytes once the n low bytes of v stand from place a on
unfoldable pub store_bytes : (ℕ → ℕ) → ℕ → ℕ → ℕ → ℕ → ℕ
store_bytes bytes a n v i = elim (leb a i && ltb i (a + n)) [ true ↦ byte_of v (i - a) | false ↦ bytes i ]
