use mir.Raw.{raw}
use base.Shift.{Keyless}
use denote.Memory.{lone}
use denote.RawPtr.{Ptr}
use denote.Struct.Struct.{exits_of}
use denote.Struct.Owning.{shape, fields, to}
use denote.Param.Send.{IsSend, AllSend, owning_send, struct_send, sendable}
use Rattle.std.specs.Prelude.{Option, Some, None}
use Rattle.std.specs.Global.{Global}
use Rattle.std.proofs.Crossing as heap
use Rattle.std_alloc.proofs.SendSync.{quiet, lies}
use Rattle.std_heap.proofs.Global.TheSendSync as handle
use Rattle.rcu_c.specs.Handle.{handle_owns}
use Rattle.rcu_c.specs.contracts.contents.Contents as Contents
use Rattle.rcu_c.proofs.contents.Contents.TheSendSync.{the_send as contents}
use Rattle.rcu_c.specs.contracts.handle.Handle.{the_row, the_type}

keyless : (al : Global) (p : Ptr) (m : Option (Contents.the_row).Denot)
    → Keyless (handle_owns al p m)
keyless al p None = tt
keyless al p (Some x) = (
  lies Contents.the_row contents p x,
  heap.frees.frees al (raw (lone Contents.the_row.mir)) p,
)

pub send : IsSend the_row
send =
    let all : AllSend (fields the_type) = (search sendable, (handle.the_field_send, tt)) in
    owning_send the_type all (λ d. keyless d.alloc d.at d.contents)
    (λ k. quiet (to the_type) (exits_of k (fields the_type))
    ((struct_send (shape the_type) all).leaving k))
