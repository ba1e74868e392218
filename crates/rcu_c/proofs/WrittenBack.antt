-- A handle into which its contents are written back.
use Rattle.std.proofs.Common.{◌≡◌, Option, Some, ap, sym, ◌∙◌}
use Rattle.rcu_c.specs.declared.handle.Handle.{Handle}
use Rattle.rcu_c.specs.declared.contents.Contents.{Contents}
use Rattle.rcu_c.specs.Lending.{with_contents}

-- it is as it was
pub as_it_was : (before after : Handle) (held : Contents)
    → after.contents ≡ Some held → after ≡ before → with_contents after held ≡ before
as_it_was before after held holds same =
    ap (λ (m : Option Contents). record { at = after.at; alloc = after.alloc; contents = m })
    (sym holds)
    ∙ same
