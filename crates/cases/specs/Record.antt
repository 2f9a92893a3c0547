-- A record in a text of cases: thirteen decimal numbers, each after the byte that ended the one before.
use Rattle.std.specs.Prelude.{ℕ, List}
use Rattle.btor2_list.specs.Record.{address_by}
use Rattle.cases.specs.Scan.{Read, read, number_from}
use Rattle.cases.specs.declared.commands.Placed.{Placed}

unfoldable pub record_from : List ℕ → ℕ → Read Placed
record_from text from =
    let place = number_from text from in
    let nid = number_from text place.next in
    let kind = number_from text nid.next in
    let sort = number_from text kind.next in
    let op1 = number_from text sort.next in
    let op2 = number_from text op1.next in
    let op3 = number_from text op2.next in
    let imm = number_from text op3.next in
    let area = number_from text imm.next in
    let at = number_from text area.next in
    let len = number_from text at.next in
    let mark = number_from text len.next in
    let address = number_from text mark.next in
    read (record {
      place = record { 0 = place.value };
      line = record {
        nid = record { 0 = nid.value };
        kind = kind.value;
        sort = sort.value;
        op1 = record { 0 = op1.value };
        op2 = record { 0 = op2.value };
        op3 = record { 0 = op3.value };
        imm = imm.value;
        name = record { area = area.value; at = at.value; len = len.value };
        address = address_by mark.value address.value;
      };
    }) address.next
