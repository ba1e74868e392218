-- The handle and its parts own the same as a box at the same types.
use mir.Syntax.{impl, tnil, dnil}
use mathlib.Core.List.{[]}
use denote.Signature.{Slot, plain}
use Rattle.std_alloc.proofs.BoxSteps.Form.{Bx}
use Rattle.std_heap.specs.contracts.Global as Heap
use Rattle.std_heap.specs.contracts.GlobalAllocator.TheImpl.{ghosts, dict}
use Rattle.std_heap.proofs.Global.TheLaws as heap
use Rattle.rcu_c.specs.contracts.contents.Contents as Contents
use Rattle.rcu_c.proofs.contents.Contents.TheLaws as contents
use Rattle.rcu_c.specs.contracts.raw_box.RawBox as RawBox
use Rattle.rcu_c.specs.contracts.handle.Handle as Handle

abbrev pub E : Bx
E = record {
  row = Contents.the_row;
  laws = contents.the_row_laws;
  al = record {
    row = Heap.the_row;
    laws = heap.the_row_laws;
    g = ghosts;
    d = dict;
    drops = impl [] tnil dnil;
  };
}

abbrev pub FromRawBox : Slot 0
FromRawBox = plain (λ _. RawBox.the_row Contents.the_row Heap.the_row ghosts)

abbrev pub FromHandle : Slot 0
FromHandle = plain (λ _. Handle.the_row)
