-- Memory as the model holds it, an array of words: document 01, "Start, storage, evaluation".
use Rattle.std.specs.Prelude.{ℕ, ◌-◌, ◌%◌, cond, eqb}
use Rattle.bitvec.specs.Bytes.{byte_of, load_bytes}

-- "byte a is byte a mod 8, low byte first, of the cell at a − a mod 8"
unfoldable pub bytes_of : (ℕ → ℕ) → ℕ → ℕ
bytes_of cells a = byte_of (cells (a - a % 8)) (a % 8)

-- the cells once memory has these bytes; "a store leaves cells at other addresses as in the memory node"
unfoldable pub cells_with : (ℕ → ℕ) → (ℕ → ℕ) → ℕ → ℕ
cells_with cells bytes x = cond (eqb (x % 8) 0) (load_bytes bytes x 8) (cells x)
