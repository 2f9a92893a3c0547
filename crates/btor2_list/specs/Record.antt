-- The lent words: records of five words, one after the other.
use Rattle.std.specs.Prelude.{ℕ, zero, suc, ◌+◌, ◌*◌, ◌/◌, ◌%◌, ◌^◌, ◌-◌, min, Bool, cond, ◌||◌, List, [], ◌∷◌, ltb, eqb, length, get_or, set, take, Option, Some, None}
use Rattle.std.proofs.lemmas.List.Edits.{sets}
use Rattle.btor2_list.specs.Kinds.{const_kind, state_kind, input_kind, bad_kind}
use Rattle.btor2_list.specs.declared.Line.{Line}

-- the words of one record
abbrev pub stride : ℕ
stride = 5

-- how many records n words hold
abbrev pub capacity : ℕ → ℕ
capacity n = n / stride

-- the words that n records take
abbrev pub words_for : ℕ → ℕ
words_for n = n * stride

-- ---- the first word: a byte each for the kind, the sort and the name's area, half a byte each for the mark of a State's init and the mark of an
-- address, and four bytes for the identifier. A State has an init, and a line an address, where the mark is not 0: we write 1.

abbrev pub kind_in : ℕ → ℕ
kind_in head = head % 256

abbrev pub sort_in : ℕ → ℕ
sort_in head = head / 256 % 256

abbrev pub area_in : ℕ → ℕ
area_in head = head / 65536 % 256

abbrev pub init_in : ℕ → ℕ
init_in head = head / 16777216 % 16

-- the unit of the mark of an address
abbrev address_unit : ℕ
address_unit = 2 ^ 28

abbrev pub address_mark_in : ℕ → ℕ
address_mark_in head = head / address_unit % 16

abbrev pub nid_in : ℕ → ℕ
nid_in head = head / 4294967296

-- a number that its field cannot hold is stored as the largest that it can. No kind, sort or area has the number 255, and no list that is
-- accepted has the identifier 2^32 - 1, so refusals 9 to 11 see what did not fit.
abbrev pub saturated : ℕ → ℕ → ℕ
saturated most n = cond (ltb most n) most n

abbrev pub most_in_byte : ℕ
most_in_byte = 2 ^ 8 - 1

abbrev pub most_in_nid : ℕ
most_in_nid = 2 ^ 32 - 1

abbrev pub mark : ℕ
mark = 1

-- without the mark of an address
abbrev pub head_of : ℕ → ℕ → ℕ → ℕ → ℕ → ℕ
head_of kind sort area init nid =
    saturated most_in_byte kind
    + 256 * saturated most_in_byte sort
    + 65536 * saturated most_in_byte area
    + 16777216 * saturated mark init
    + 4294967296 * saturated most_in_nid nid

-- ---- the address that a line was lowered for: "the address [..], or a mark that it came with the start or from the joining of edges" (document
-- 02, R-3). Where there is none, the last word is 0 when we write it, and it is not looked at.

abbrev pub address_mark : Option ℕ → ℕ
address_mark (Some a) = mark
address_mark None = 0

abbrev pub marked : ℕ → Option ℕ → ℕ
marked head address = head + address_unit * address_mark address

abbrev pub address_word : Option ℕ → ℕ
address_word (Some a) = a
address_word None = 0

abbrev pub address_by : ℕ → ℕ → Option ℕ
address_by m a = cond (eqb m 0) None (Some a)

-- ---- the words between: operands. A Const has none, and its value stands in the first's place; State, Input and Bad have no second and third,
-- and the place and the length of their name stand there.

abbrev pub has_name : ℕ → Bool
has_name kind = eqb kind state_kind || (eqb kind input_kind || eqb kind bad_kind)

abbrev pub words : Line → List ℕ
words l =
    marked (head_of l.kind l.sort l.name.area (cond (eqb l.kind state_kind) l.imm 0) l.nid.0) l.address
    ∷ cond (eqb l.kind const_kind) l.imm l.op1.0
    ∷ cond (has_name l.kind) l.name.at l.op2.0
    ∷ cond (has_name l.kind) l.name.len l.op3.0
    ∷ address_word l.address
    ∷ []

-- word k of the record at place p, and that record
abbrev pub word : List ℕ → ℕ → ℕ → ℕ
word ws p k = get_or ws (words_for p + k) 0

unfoldable pub record_at : List ℕ → ℕ → Line
record_at ws p = record {
  nid = record { 0 = nid_in (word ws p 0) };
  kind = kind_in (word ws p 0);
  sort = sort_in (word ws p 0);
  op1 = record { 0 = word ws p 1 };
  op2 = record { 0 = word ws p 2 };
  op3 = record { 0 = word ws p 3 };
  imm = cond (eqb (kind_in (word ws p 0)) state_kind) (init_in (word ws p 0)) (word ws p 1);
  name = record { area = area_in (word ws p 0); at = word ws p 2; len = word ws p 3 };
  address = address_by (address_mark_in (word ws p 0)) (word ws p 4);
}

-- the words reach over the record at place p
abbrev pub holds : List ℕ → ℕ → Bool
holds ws p = ltb p (capacity (length ws))

-- the words once a record is put at place p
abbrev pub put_at : List ℕ → ℕ → Line → List ℕ
put_at ws p l = cond (holds ws p) (sets ws (words_for p) (words l)) ws

-- the record at place p, and one field of it, 0 where there is none
abbrev pub get_at : List ℕ → ℕ → Option Line
get_at ws p = cond (holds ws p) (Some (record_at ws p)) None

abbrev pub field_at : (Line → ℕ) → List ℕ → ℕ → ℕ
field_at field ws p = cond (holds ws p) (field (record_at ws p)) 0

-- a first word with the lowest bit of the mark of an address, so that a mark that is there stays one
abbrev pub with_mark : ℕ → ℕ
with_mark head = cond (eqb (head / address_unit % 2) 0) (head + address_unit) head

-- the words once the record that starts at word i has an address, and once the n records from place p on have it, as far as the words hold them
abbrev pub with_address : List ℕ → ℕ → ℕ → List ℕ
with_address ws i a = set (set ws i (with_mark (get_or ws i 0))) (i + 4) a

unfoldable pub address_lines : List ℕ → ℕ → ℕ → ℕ → List ℕ
address_lines ws p zero a = ws
address_lines ws p (suc n) a = let vs = address_lines ws p n a in cond (holds vs (p + n)) (with_address vs (words_for (p + n)) a) vs

-- the words of the first n records, as far as there are any
abbrev pub first_lines : List ℕ → ℕ → List ℕ
first_lines ws n = take (words_for (min n (capacity (length ws)))) ws
