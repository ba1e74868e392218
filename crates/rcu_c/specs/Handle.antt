-- The resources of a handle: an open one owns those of a box of its contents; a closed one is null.
use base.Fml.{Fml, feq}
use base.Stored.{Coded}
use denote.RawPtr.{Ptr, null_ptr}
use Rattle.std.specs.Prelude.{Option, Some, None}
use Rattle.std.specs.Coded.{coded_option}
use Rattle.std.specs.Box.Ownership.{box_owns}
use Rattle.std.specs.Global.{Global}
use Rattle.std_heap.specs.contracts.GlobalAllocator.TheImpl.{ghosts}
use Rattle.rcu_c.specs.contracts.contents.Contents.{the_row}

-- a closed handle points nowhere, and owns nothing
abbrev pub handle_owns : Global → Ptr → Option the_row.Denot → Fml
handle_owns alloc at None = feq Ptr at null_ptr
handle_owns alloc at (Some contents) = box_owns (ghosts.dealloc_token alloc) the_row at contents

-- the encoding of a handle's contents in the logic
abbrev pub contents_coded : Coded (Option the_row.Denot)
contents_coded = coded_option the_row.coded
