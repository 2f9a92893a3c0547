-- Each origin has its word. Assumes nothing.
use Rattle.std.proofs.Common.{rules}
use Rattle.edges.specs.declared.Origin.TheVariants.{Regular, Branch}
use Rattle.edges.proofs.Origins.{number_of, other, none}
use Rattle.listing_text.proofs.in_edges.origin_word.Goals as goal
use Rattle.listing_text.proofs.in_edges.origin_word.Goals.{in_default-via-in-Some+in_default, in_default-via-in_default}

pub returns-in-Some-Regular : goal.returns-in-Some-Regular
returns-in-Some-Regular c = rw (number_of c.args.origin Regular cc)

pub returns-in-Some-Branch : goal.returns-in-Some-Branch
returns-in-Some-Branch c = rw (number_of c.args.origin Branch cc)

pub returns-in_default : goal.returns-in_default
returns-in_default c =
    let n = c.args.origin in
    elim c.in_default.branch [
      | in_default-via-in-Some+in_default w ↦
          let o = w.in_default.field-0 in
          rw (other n o Regular (search rules) cc, other n o Branch (search rules) cc)
      | in_default-via-in_default w ↦ rw (none n Regular cc, none n Branch cc)
    ]
