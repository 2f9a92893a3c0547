-- Document 01, "Bench cases (starred: proved together)": the starred ones, each under its words; and two of document 02, R-4. The start's lines
-- stand at places 0 to 38: x1 at 4, x2 at 5, the flag at 38; a call's from 39 on.
use Rattle.std.specs.Prelude.{◌+◌, ◌-◌, ◌^◌, ◌≡◌, cond, List, [], ◌∷◌, ◌++◌, eqb}
use Rattle.btor2.specs.declared.NodeType.TheVariants.{Bit, Word}
use Rattle.btor2.specs.Op.{const, bin, sdiv, ult, not, bad}
use Rattle.edges.specs.Edges.{edge, no_condition}
use Rattle.riscv.specs.declared.Kind.TheVariants.{Lui, Auipc, Lh, Addi, Slli, Srliw, Div, Divw, Bgeu, Jal, Jalr}
use Rattle.starred.specs.Case.{AskedCase, asked, states, Finding, refusal, lines, line, value, edges, dispatches, bads, answered}

unfoldable pub cases : List (AskedCase × List Finding)
cases =
    -- "Srliw 31 accepted, 0 gives 4, 32 gives 3; with 0 and rd x0, still 4."
    (asked 65536 Srliw 1 2 0 31, refusal 0 ∷ [])
    ∷ (asked 65536 Srliw 1 2 0 0, refusal 4 ∷ [])
    ∷ (asked 65536 Srliw 1 2 0 32, refusal 3 ∷ [])
    ∷ (asked 65536 Srliw 0 2 0 0, refusal 4 ∷ [])
    -- "Slli 63 accepted, 64 gives 3."
    ∷ (asked 65536 Slli 1 2 0 63, refusal 0 ∷ [])
    ∷ (asked 65536 Slli 1 2 0 64, refusal 3 ∷ [])
    -- "Addi x0, imm 5: no line, one edge. Addi x1, x0, 0: 11 lines; with imm 1: 12."
    ∷ (asked 65536 Addi 0 2 0 5, refusal 0 ∷ lines 39 ∷ edges (edge 65540 65536 0 no_condition) ∷ [])
    ∷ (asked 65536 Addi 1 0 0 0, refusal 0 ∷ lines (39 + 11) ∷ [])
    ∷ (asked 65536 Addi 1 0 0 1, refusal 0 ∷ lines (39 + 12) ∷ [])
    -- "Auipc at 65,536 with 1,048,575: constant 61,440."
    ∷ (asked 65536 Auipc 1 0 0 1048575, refusal 0 ∷ line 39 (const Word 61440) ∷ [])
    -- "Lui 524,288: constant 18446744071562067968."
    ∷ (asked 65536 Lui 1 0 0 524288, refusal 0 ∷ line 39 (const Word 18446744071562067968) ∷ [])
    -- "Jal x0, imm 4 at 2^64 − 4: edge to 0."
    ∷ (asked (2 ^ 64 - 4) Jal 0 0 0 4, refusal 0 ∷ edges (edge 0 (2 ^ 64 - 4) 0 no_condition) ∷ [])
    -- "Bgeu imm 4: two edges to one address, taken first."
    ∷ (
      asked 65536 Bgeu 0 1 2 4,
      refusal 0
          ∷ line 39 (bin ult 4 5)
          ∷ line 40 (not Bit 39)
          ∷ line 41 (not Bit 40)
          ∷ edges (edge 65540 65536 1 40 ++ edge 65540 65536 1 41)
          ∷ [],
    )
    -- "Jalr x0, x0, 8: one bad line, no edge. Jalr x0, x1, 4: refusal 6." The bad line's name is in our area, "unimplemented-pc-10000".
    ∷ (
      asked 65536 Jalr 0 0 0 8,
      refusal 0 ∷ lines (39 + 1) ∷ line 39 (bad 38 (record { area = 2; at = 0; len = 22 })) ∷ edges [] ∷ dispatches [] ∷ bads (39 ∷ []) ∷ [],
    )
    ∷ (asked 65536 Jalr 0 1 0 4, refusal 6 ∷ [])
    -- "Lh from cell 2^63 at offset 6: −32,768.": x2 is 64, and the cell there 2^63; the last line is x1's flow
    ∷ (asked 65536 Lh 1 2 0 6, refusal 0 ∷ lines (39 + 19) ∷ value (38 + 19) (states (λ r. 64) (λ a. cond (eqb a 64) (2 ^ 63) 0)) (2 ^ 64 - 32768) ∷ [])
    -- "Div −7 by 0: line value 1."
    ∷ (asked 65536 Div 1 2 3 0, refusal 0 ∷ line 40 (bin sdiv 5 6) ∷ value 40 (states (λ r. cond (eqb r 2) (2 ^ 64 - 7) 0) (λ a. 0)) 1 ∷ [])
    -- document 02, R-4: "A motor scaling routine divided −2^31 by −1: the manual's Divw wraps to −2^31, the lowered lines give +2^31. Div at
    -- −2^63 by −1 does agree." The last line is x1's flow.
    ∷ (asked 65536 Divw 1 2 3 0, refusal 0 ∷ lines (39 + 15) ∷ value (38 + 15) (states (λ r. cond (eqb r 2) (2 ^ 64 - 2 ^ 31) (2 ^ 64 - 1)) (λ a. 0)) (2 ^ 31) ∷ [])
    ∷ (asked 65536 Div 1 2 3 0, refusal 0 ∷ lines (39 + 3) ∷ value (38 + 3) (states (λ r. cond (eqb r 2) (2 ^ 63) (2 ^ 64 - 1)) (λ a. 0)) (2 ^ 63) ∷ [])
    ∷ []

-- what the calls give is what the table says
abbrev pub Starred : Type 0
Starred = answered cases ≡ cases
