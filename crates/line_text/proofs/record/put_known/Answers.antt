-- Each kind's clause; past the last kind there is no text. Assumes nothing.
use Rattle.std.proofs.Common.{arith}
use Rattle.text.proofs.Laws.{nothing, put_as}
use Rattle.btor2_list.specs.Node.{op_of}
use Rattle.btor2_list.proofs.NoKind.{outside}
use Rattle.line_text.specs.Record.{line_text, with_operands}
use Rattle.line_text.proofs.KnownKinds.{number_of, state_text}
use Rattle.line_text.proofs.record.put_known.Goals as goal

pub returns-in-1 : goal.returns-in-1
unfolding op_of line_text
returns-in-1 c =
    let sort = c.requires (rw c.in-1.is) in
    put_as c.put_row.ensures (rw (c.in-1.is, sort.1, number_of sort.0 c.args.identified.line.sort sort.1))

pub returns-in-2 : goal.returns-in-2
unfolding op_of line_text
returns-in-2 c = put_as c.put_row-in-2.ensures (rw c.in-2.is)

pub returns-in-3 : goal.returns-in-3
unfolding op_of line_text
returns-in-3 c = put_as c.put_row-in-3.ensures (rw c.in-3.is)

pub returns-in-4 : goal.returns-in-4
unfolding op_of line_text
returns-in-4 c = put_as c.put_row-in-4.ensures (rw c.in-4.is)

pub returns-in-5 : goal.returns-in-5
unfolding op_of line_text
returns-in-5 c = put_as c.put_row-in-5.ensures (rw c.in-5.is)

pub returns-in-6 : goal.returns-in-6
unfolding op_of line_text
returns-in-6 c = put_as c.put_row-in-6.ensures (rw c.in-6.is)

pub returns-in-7 : goal.returns-in-7
unfolding op_of line_text
returns-in-7 c = put_as c.put_row-in-7.ensures (rw c.in-7.is)

pub returns-in-8 : goal.returns-in-8
unfolding op_of line_text
returns-in-8 c = put_as c.put_row-in-8.ensures (rw c.in-8.is)

pub returns-in-9 : goal.returns-in-9
unfolding op_of line_text
returns-in-9 c = put_as c.put_row-in-9.ensures (rw c.in-9.is)

pub returns-in-10 : goal.returns-in-10
unfolding op_of line_text
returns-in-10 c = put_as c.put_row-in-10.ensures (rw c.in-10.is)

pub returns-in-11 : goal.returns-in-11
unfolding op_of line_text
returns-in-11 c = put_as c.put_row-in-11.ensures (rw c.in-11.is)

pub returns-in-12 : goal.returns-in-12
unfolding op_of line_text
returns-in-12 c = put_as c.put_row-in-12.ensures (rw c.in-12.is)

pub returns-in-13 : goal.returns-in-13
unfolding op_of line_text
returns-in-13 c =
    let sort = c.requires (rw c.in-13.is) in
    put_as c.put_row-in-13.ensures (rw (c.in-13.is, sort.1, c.padding.ensures sort.0 sort.1))

pub returns-in-14 : goal.returns-in-14
unfolding op_of line_text
returns-in-14 c =
    let sort = c.requires (rw c.in-14.is) in
    put_as c.put_row-in-14.ensures (rw (c.in-14.is, sort.1, number_of sort.0 c.args.identified.line.sort sort.1))

pub returns-in-15 : goal.returns-in-15
unfolding op_of line_text
returns-in-15 c = put_as c.put_row-in-15.ensures (rw c.in-15.is)

pub returns-in-16 : goal.returns-in-16
unfolding op_of line_text
returns-in-16 c =
    let sort = c.requires (rw c.in-16.is) in
    put_as c.put_row-in-16.ensures (rw (c.in-16.is, sort.1, number_of sort.0 c.args.identified.line.sort sort.1))

pub returns-in-17 : goal.returns-in-17
unfolding op_of line_text
returns-in-17 c =
    let sort = c.requires (rw c.in-17.is) in
    put_as c.put_row-in-17.ensures (rw (c.in-17.is, sort.1, number_of sort.0 c.args.identified.line.sort sort.1))

pub returns-in-18 : goal.returns-in-18
unfolding op_of line_text
returns-in-18 c =
    let sort = c.requires (rw c.in-18.is) in
    put_as c.put_row-in-18.ensures (rw (c.in-18.is, sort.1, number_of sort.0 c.args.identified.line.sort sort.1))

pub returns-in-19 : goal.returns-in-19
returns-in-19 c =
    let r = c.args.identified in
    let sort = c.requires (rw c.in-19.is) in
    put_as c.put_state.ensures (rw c.printed.ensures (state_text _ r.line r.a.0 r.b.0 r.c.0 sort.0 c.in-19.is sort.1))

pub returns-in-20 : goal.returns-in-20
unfolding op_of line_text
returns-in-20 c =
    let sort = c.requires (rw c.in-20.is) in
    put_as c.put_row-in-20.ensures (rw (c.in-20.is, sort.1, number_of sort.0 c.args.identified.line.sort sort.1))

pub returns-in-21 : goal.returns-in-21
unfolding op_of line_text
returns-in-21 c =
    let sort = c.requires (rw c.in-21.is) in
    put_as c.put_named.ensures (rw (c.printed-in-21.ensures, c.in-21.is, sort.1, number_of sort.0 c.args.identified.line.sort sort.1))

pub returns-in-22 : goal.returns-in-22
unfolding op_of line_text
returns-in-22 c = put_as c.put_named-in-22.ensures (rw (c.printed-in-22.ensures, c.in-22.is))

pub returns-in_default : goal.returns-in_default
unfolding line_text
returns-in_default c =
    let r = c.args.identified in
    nothing (omega arith) (rw (outside (with_operands r.line r.a.0 r.b.0 r.c.0) (λ h. omega arith)))
