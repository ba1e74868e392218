use Rattle.std.proofs.Common.{◌∙◌, ap, sym, arith, replicate, false, List, Bool}
use Rattle.rcu_geometry.specs.Geometry.{shape}
use Rattle.rcu_node.specs.CpuSet.{is_in, size_of}
use Rattle.rcu_node.specs.Masks.{now_masks, start_masks}
use Rattle.rcu_node.proofs.CpuSetLemmas.{size_of-none}
use Rattle.rcu_node.proofs.Marks.{zeros_linked, zeros_members}
use Rattle.rcu_node.proofs.Members.{length-members}
use Rattle.rcu_node.proofs.nodes.Nodes.new.Goals as goal

pub invariant_of-result : goal.invariant_of-result
invariant_of-result g c =
    let s = c.in_ok-geometry.geometry in
    let made = c.in_ok-geometry.ensures in
    let now = now_masks c.in_ok-nodes.nodes.items in
    let start = start_masks c.in_ok-nodes.nodes.items in
    let nobody = zeros_members s now c.in_ok-nodes.ensures.now in
    let none = zeros_members s start c.in_ok-nodes.ensures.start in
    record {
      legal = made.legal;
      shaped =
          made.state
          ∙ ap (λ cpus. shape g.row.LEAF g.row.FAN cpus) (sym (ap (λ s. s.cpus) made.state));
      awaited = zeros_linked s now c.in_ok-nodes.ensures.now;
      started = zeros_linked s start c.in_ok-nodes.ensures.start;
      groups = c.in_ok-nodes.ensures.group;
      counted = sym (ap (λ (set : List Bool). size_of set) nobody ∙ size_of-none s.cpus);
      some =
          (let sized = length-members s now in
          let some = made.legal.some in omega (arith, sized, some));
      few =
          (let sized = length-members s now in
          let few = made.legal.few in omega (arith, sized, few));
      alike = length-members s start ∙ sym (length-members s now);
      within = λ cpu there. ap (λ (set : List Bool). is_in set cpu) (none ∙ sym nobody) ∙ there;
    }

pub returns-clause-awaited : goal.returns-clause-awaited
returns-clause-awaited g c =
    zeros_members c.in_ok-geometry.geometry (now_masks c.in_ok-nodes.nodes.items)
    c.in_ok-nodes.ensures.now
    ∙ ap (λ s. replicate s.cpus false) c.in_ok-geometry.ensures.state

pub returns-clause-start_set : goal.returns-clause-start_set
returns-clause-start_set g c =
    zeros_members c.in_ok-geometry.geometry (start_masks c.in_ok-nodes.nodes.items)
    c.in_ok-nodes.ensures.start
    ∙ ap (λ s. replicate s.cpus false) c.in_ok-geometry.ensures.state
