-- The fields, read one by one, are the line: up to the first that is malformed, the others being as the line has them.
-- Assumes nothing.
use Rattle.std.proofs.Common.{◌≡◌, ℕ, ◌^◌, ◌≤◌, Bool, List, [], length, get_or, sym, refl, ap, ◌∙◌}
use Rattle.std.specs.Prelude.{Option, Some}
use borrow.Author.Tests.{lt-leb, le-leb, eq-eqb, ne_eqb}
use Rattle.listing_input.specs.declared.line.Parsed.{Parsed}
use Rattle.listing_input.specs.Text.{split, number_below}
use Rattle.listing_input.specs.Kinds.{kind_code}
use Rattle.listing_input.specs.Line.{◌>>◌, ◌>>=◌, parse_line, instruction, letters, immediate}
use Rattle.listing_input.proofs.line.parse.Goals as goal

-- the instruction of fields that are read
abbrev assembled : Option ℕ → Bool → ℕ → Option ℕ → Option ℕ → Option ℕ → Option ℕ → Option Parsed
assembled at named kind d s t i = do
  address ← at
  named
  rd ← d
  rs1 ← s
  rs2 ← t
  imm ← i
  Some (record { address = address; instruction = record { kind = kind; rd = rd; rs1 = rs1; rs2 = rs2; imm = imm } })

abbrev part : List ℕ → ℕ → List ℕ
part line k = get_or (split 32 line) k []

read : (line : List ℕ) → length line ≤ 256 → length (split 32 line) ≡ 6
    → {at d s t i : Option ℕ} {named : Bool} {kind : ℕ}
    → at ≡ number_below (2 ^ 64) (part line 0) → named ≡ letters (part line 1) → kind ≡ kind_code (part line 1) → d ≡ number_below 256 (part line 2)
    → s ≡ number_below 256 (part line 3) → t ≡ number_below 256 (part line 4) → i ≡ immediate (part line 5) → assembled at named kind d s t i ≡ parse_line line
unfolding parse_line instruction
read line short six a n k d s t i = rw (a, n, k, d, s, t, i, le-leb (length line) 256 short, eq-eqb (length (split 32 line)) 6 six)

pub returns-then-line-gt-MOST_BYTES : goal.returns-then-line-gt-MOST_BYTES
unfolding parse_line
returns-then-line-gt-MOST_BYTES c = rw (lt-leb _ 256 c.if-line-gt-MOST_BYTES.true)

pub returns-then-fields-ne-FIELDS : goal.returns-then-fields-ne-FIELDS
unfolding parse_line instruction
returns-then-fields-ne-FIELDS c = rw (le-leb _ 256 c.if-line-gt-MOST_BYTES.false, ne_eqb _ 6 (λ e. c.if-fields-ne-FIELDS.true (c.fields.ensures ∙ e)))

pub returns-in_err-address : goal.returns-in_err-address
returns-in_err-address c =
    c.from_residual.ensures
    ∙ read c.args.line.now c.if-line-gt-MOST_BYTES.false (sym c.fields.ensures ∙ c.if-fields-ne-FIELDS.false) c.in_err-address.ensures refl refl refl refl refl refl

pub returns-then-not-letters : goal.returns-then-not-letters
returns-then-not-letters c =
    read c.args.line.now c.if-line-gt-MOST_BYTES.false (sym c.fields.ensures ∙ c.if-fields-ne-FIELDS.false) c.in_ok-address.ensures
    (sym c.if-not-letters.true ∙ c.letters.ensures ∙ ap letters c.field-name.ensures) refl refl refl refl refl

pub returns-in_err-rd : goal.returns-in_err-rd
returns-in_err-rd c =
    c.from_residual-in_err-rd.ensures
    ∙ read c.args.line.now c.if-line-gt-MOST_BYTES.false (sym c.fields.ensures ∙ c.if-fields-ne-FIELDS.false) c.in_ok-address.ensures
    (sym c.if-not-letters.false ∙ c.letters.ensures ∙ ap letters c.field-name.ensures) refl c.in_err-rd.ensures refl refl refl

pub returns-in_err-rs1 : goal.returns-in_err-rs1
returns-in_err-rs1 c =
    c.from_residual-in_err-rs1.ensures
    ∙ read c.args.line.now c.if-line-gt-MOST_BYTES.false (sym c.fields.ensures ∙ c.if-fields-ne-FIELDS.false) c.in_ok-address.ensures
    (sym c.if-not-letters.false ∙ c.letters.ensures ∙ ap letters c.field-name.ensures) refl c.in_ok-rd.ensures c.in_err-rs1.ensures refl refl

pub returns-in_err-rs2 : goal.returns-in_err-rs2
returns-in_err-rs2 c =
    c.from_residual-in_err-rs2.ensures
    ∙ read c.args.line.now c.if-line-gt-MOST_BYTES.false (sym c.fields.ensures ∙ c.if-fields-ne-FIELDS.false) c.in_ok-address.ensures
    (sym c.if-not-letters.false ∙ c.letters.ensures ∙ ap letters c.field-name.ensures) refl c.in_ok-rd.ensures c.in_ok-rs1.ensures
    c.in_err-rs2.ensures refl

pub returns-in_err-imm : goal.returns-in_err-imm
returns-in_err-imm c =
    c.from_residual-in_err-imm.ensures
    ∙ read c.args.line.now c.if-line-gt-MOST_BYTES.false (sym c.fields.ensures ∙ c.if-fields-ne-FIELDS.false) c.in_ok-address.ensures
    (sym c.if-not-letters.false ∙ c.letters.ensures ∙ ap letters c.field-name.ensures) refl c.in_ok-rd.ensures c.in_ok-rs1.ensures
    c.in_ok-rs2.ensures (c.in_err-imm.ensures ∙ ap immediate c.field.ensures)

pub returns : goal.returns
returns c =
    read c.args.line.now c.if-line-gt-MOST_BYTES.false (sym c.fields.ensures ∙ c.if-fields-ne-FIELDS.false) c.in_ok-address.ensures
    (sym c.if-not-letters.false ∙ c.letters.ensures ∙ ap letters c.field-name.ensures) (c.kind_code.ensures ∙ ap kind_code c.field-name.ensures) c.in_ok-rd.ensures
    c.in_ok-rs1.ensures c.in_ok-rs2.ensures (c.in_ok-imm.ensures ∙ ap immediate c.field.ensures)
