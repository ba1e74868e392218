use Rattle.std.proofs.Common.{◌≡◌, ◌-◌, ◌*◌, ◌≤◌, ◌<◌, ◌∙◌, ap, arith, false, lit<, refl}
use Rattle.std.proofs.Common.{subst, sym, ℕ}
use Rattle.std.proofs.lemmas.Nat.{mul-le}
use Rattle.rcu_geometry.specs.Geometry.{first_leaf, level_start, levels}
use Rattle.rcu_geometry.proofs.Capacities.{levels_range}
use Rattle.rcu_geometry.proofs.Levels.{start_rises, start_within}
use Rattle.rcu_node.specs.CpuSet.{is_in}
use Rattle.rcu_node.specs.Masks.{now_masks}
use Rattle.rcu_node.specs.Steps.{AreFilled}
use Rattle.rcu_node.proofs.Fills.{bits_are, filled_members, filled_more, filled_none, is_leaf_mask}
use Rattle.rcu_node.proofs.Fills.{filled_skip, full_mask, leaf_later}
use Rattle.rcu_node.proofs.Marks.{zeros_linked}
use Rattle.rcu_node.proofs.fill.fill.Goals as goal

pub loop-cpu-init : goal.loop-cpu-init
loop-cpu-init g c =
    let s = c.args.geometry.now in
    let masks = now_masks c.args.nodes.now.items in
    let first : c.level_start-first.result ≡ first_leaf s =
    c.level_start-first.ensures
    ∙ ap (λ levels. level_start s (levels - 1)) c.levels.ensures.value in
    let rises = start_rises s (levels s - 1) (levels s) (omega arith) in
    record {
      from = omega (arith, first);
      here = omega (arith, first, rises);
      linked = zeros_linked s masks c.requires.now;
      filled = subst (λ leaf. AreFilled s c.args.set.now masks leaf) (sym first)
          (filled_none s c.args.set.now masks c.requires.now);
      both = c.requires.start ∙ sym c.requires.now;
      group = refl;
    }

pub overflow_mul-leaf : goal.overflow_mul-leaf
overflow_mul-leaf g c =
    let s = c.args.geometry.now in
    let range = levels_range s in
    let few = start_within s (levels s) c.requires.legal in
    let here = c.loop-cpu.invariant.here in
    let leaf = c.requires.legal.leaf_high in
    let same = c.requires.leaf in
    let product = mul-le (c.loop-cpu.leaf - c.level_start-first.result) g.row.LEAF 16384 64
    (omega (arith, few, range, here)) (omega (arith, leaf, same)) in
    omega (arith, product)

pub fill_leaf-requires : goal.fill_leaf-requires
fill_leaf-requires g c =
    let s = c.args.geometry.now in
    let l = c.loop-cpu in
    let set = c.args.set.now in
    let node = c.leaf_of-leaf.result in
    let first : c.level_start-first.result ≡ first_leaf s =
    c.level_start-first.ensures
    ∙ ap (λ levels. level_start s (levels - 1)) c.levels.ensures.value in
    let leaf_is = c.leaf_of-leaf.ensures.value in
    let from : first_leaf s ≤ node = omega (arith, leaf_is) in
    let same : (l.leaf - c.level_start-first.result) * g.row.LEAF
    ≡ (l.leaf - first_leaf s) * s.leaf =
    rw (first, c.requires.leaf) refl in
    let later : (l.leaf - first_leaf s) * s.leaf ≤ c.in-Some.cpu =
    (let is = c.in-Some.ensures.later in omega (arith, is, same)) in
    let order : l.leaf ≤ node =
    (let is = leaf_later s l.leaf c.in-Some.cpu c.requires.legal l.invariant.from later in
    omega (arith, is, leaf_is)) in
    let read = bits_are s set node c.level_start-first.result g.row.LEAF c.bits_from-mask.result
    first (sym c.requires.leaf) from c.bits_from-mask.ensures in (
      lit< tt,
      (
        c.requires.legal,
        (
          from,
          (
            c.leaf_of-leaf.ensures.here,
            (
              is_leaf_mask s set node c.bits_from-mask.result c.requires.set
                  (full_mask s set c.in-Some.cpu node c.bits_from-mask.result c.requires.legal
                  leaf_is c.in-Some.ensures.here read)
                  read,
              (
                l.invariant.linked,
                (
                  l.invariant.filled.rest node order,
                  (l.invariant.both, rw l.invariant.group c.requires.groups),
                ),
              ),
            ),
          ),
        ),
      ),
    )

pub overflow_add-leaf : goal.overflow_add-leaf
overflow_add-leaf g c =
    let s = c.args.geometry.now in
    let range = levels_range s in
    let few = start_within s (levels s) c.requires.legal in
    let here = c.leaf_of-leaf.ensures.here in
    omega (arith, few, range, here)

pub loop-cpu-preserved : goal.loop-cpu-preserved
loop-cpu-preserved g c =
    let s = c.args.geometry.now in
    let l = c.loop-cpu in
    let set = c.args.set.now in
    let node = c.leaf_of-leaf.result in
    let first : c.level_start-first.result ≡ first_leaf s =
    c.level_start-first.ensures
    ∙ ap (λ levels. level_start s (levels - 1)) c.levels.ensures.value in
    let leaf_is = c.leaf_of-leaf.ensures.value in
    let from : first_leaf s ≤ node = omega (arith, leaf_is) in
    let same : (l.leaf - c.level_start-first.result) * g.row.LEAF
    ≡ (l.leaf - first_leaf s) * s.leaf =
    rw (first, c.requires.leaf) refl in
    let later : (l.leaf - first_leaf s) * s.leaf ≤ c.in-Some.cpu =
    (let is = c.in-Some.ensures.later in omega (arith, is, same)) in
    let order : l.leaf ≤ node =
    (let is = leaf_later s l.leaf c.in-Some.cpu c.requires.legal l.invariant.from later in
    omega (arith, is, leaf_is)) in
    let read = bits_are s set node c.level_start-first.result g.row.LEAF c.bits_from-mask.result
    first (sym c.requires.leaf) from c.bits_from-mask.ensures in
    let none : (k : ℕ) → (l.leaf - first_leaf s) * s.leaf ≤ k → k < c.in-Some.cpu
    → is_in set k ≡ false =
    subst (λ (n : ℕ). (k : ℕ) → n ≤ k → k < c.in-Some.cpu → is_in set k ≡ false) same
    c.in-Some.ensures.none_before in
    let here = c.leaf_of-leaf.ensures.here in
    record {
      from = omega (arith, from);
      here = omega (arith, here);
      linked = c.fill_leaf.ensures.masks;
      filled = filled_more s set (now_masks l.nodes.items) (now_masks c.fill_leaf.new.nodes.items)
          node c.bits_from-mask.result
          (filled_skip s set (now_masks l.nodes.items) l.leaf c.in-Some.cpu node l.invariant.filled
          l.invariant.from order leaf_is none)
          from (let sized = l.invariant.linked.owned.sized in omega (arith, sized, here)) read
          c.fill_leaf.ensures.leaves;
      both = c.fill_leaf.ensures.both;
      group = c.fill_leaf.ensures.group ∙ l.invariant.group;
    }

pub returns-clause-members : goal.returns-clause-members
returns-clause-members g c =
    let s = c.args.geometry.now in
    let l = c.loop-cpu in
    let set = c.args.set.now in
    let first : c.level_start-first.result ≡ first_leaf s =
    c.level_start-first.ensures
    ∙ ap (λ levels. level_start s (levels - 1)) c.levels.ensures.value in
    let same : (l.leaf - c.level_start-first.result) * g.row.LEAF
    ≡ (l.leaf - first_leaf s) * s.leaf =
    rw (first, c.requires.leaf) refl in
    filled_members s set (now_masks l.nodes.items) l.leaf c.requires.legal c.requires.set
    l.invariant.filled l.invariant.from
    (subst (λ (n : ℕ). (k : ℕ) → n ≤ k → is_in set k ≡ false) same c.in_default.ensures.none)
