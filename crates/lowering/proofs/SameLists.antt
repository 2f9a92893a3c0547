-- The lists that are lent stay the same from call to call. Assumes nothing.
use mathlib.Core.Path.{refl, ◌∙◌}
use Rattle.lowering.specs.declared.Lent.{Lent}
use Rattle.lowering.specs.Lowering.{SameLent}

pub same_lent : {Edge : Type 0} (l : Lent Edge) → SameLent l l
same_lent l = record { list = refl; names = refl; edges = refl; dispatches = refl; bads = refl }

pub same_then : {Edge : Type 0} {l l1 l2 : Lent Edge} → SameLent l l1 → SameLent l1 l2 → SameLent l l2
same_then a b =
    record {
      list = b.list ∙ a.list;
      names = b.names ∙ a.names;
      edges = b.edges ∙ a.edges;
      dispatches = b.dispatches ∙ a.dispatches;
      bads = b.bads ∙ a.bads;
    }
