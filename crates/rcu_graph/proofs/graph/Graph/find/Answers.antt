use Rattle.std.proofs.Common.{◌≡◌, ◌∙◌, ℕ, ◌<◌, ◌≤◌, List, Some, None, refl, sym, subst, inl, inr}
use Rattle.std.proofs.Common.{◌-◌, suc, ap, arith}
use Rattle.std.specs.Prelude.{slice_index}
use Rattle.rcu_live.specs.CpuSeat.{Seated, after_word_step}
use Rattle.rcu_live.specs.InPart.{seat_part}
use Rattle.rcu_live.proofs.InPart.{seat_again, seat_with}
use Rattle.rcu_graph.specs.Graph.{IsAt, IsWalking}
use Rattle.rcu_graph.specs.Nodes.{IsOn, IsReader}
use Rattle.rcu_graph.specs.Search.{IsFound, IsSearched}
use Rattle.rcu_graph.proofs.Searching.{IsOnPath, arrives, goes_on, sets_out}
use Rattle.rcu_graph.proofs.Walking.{came_holds, came_to, followed_to, found_it, walks_at}
use Rattle.rcu_graph.proofs.graph.Graph.find.Goals as goal

pub chain-init : goal.chain-init
chain-init g c = record {
  same = ap (after_word_step c.args.seat.now)
      (sym (g.met.P.Within.is_lens.as_it_is c.args.seat.now.view.client));
  planned = refl;
  reader = c.requires.walking.reads;
  inside = omega (arith, c.requires.chain.is_root, c.kept.ensures.roots);
  on = (
    (g.F.Shape.first c.args.self.now.plan) c.args.root,
    inl (c.requires.chain.is_root, refl),
    omega arith,
  );
  path = sets_out c.args.root c.args.key (g.P.Within.lens.get c.args.seat.now.view.client).known;
}

pub follow_word-word-requires : goal.follow_word-word-requires
follow_word-word-requires g c =
    let i = c.chain.invariant in
    record {
      layout = c.requires.layout;
      at = walks_at _ _ _ (seat_part g.P.Within.lens c.chain.seat) _ i.on.0
          (seat_with g.P.Within.lens g.met.P.Within.is_lens.got g.met.P.Within.is_lens.stays _ _
          i.same)
          i.planned c.requires.walking i.reader i.on.1
          i.inside;
      link = c.requires.chain.link;
    }

pub key_of-found-requires : goal.key_of-found-requires
key_of-found-requires g c =
    let some : c.follow_word-word.result ≡ suc (c.follow_word-word.result - 1) =
    omega (arith, c.if-word-eq0.false) in
    record {
      layout = c.requires.layout;
      at = c.follow_word-word.ensures.on (c.follow_word-word.result - 1) some;
    }

pub returns-then-found-key-clause-walking : goal.returns-then-found-key-clause-walking
returns-then-found-key-clause-walking g c =
    subst (λ (s : Seated g.row.P-Whole-Known.Denot). IsWalking c.args.self.now
    (seat_part g.P.Within.lens s))
    (sym c.key_of-found.ensures.same) c.follow_word-word.ensures.walking

pub returns-then-found-key-clause-on : goal.returns-then-found-key-clause-on
returns-then-found-key-clause-on g c =
    let some : c.follow_word-word.result ≡ suc (c.follow_word-word.result - 1) =
    omega (arith, c.if-word-eq0.false) in
    subst
    (λ (s : Seated g.row.P-Whole-Known.Denot).
    IsAt (g.F.Shape.first c.args.self.now.plan) c.args.self.now (seat_part g.P.Within.lens s)
    (c.follow_word-word.result - 1))
    (sym c.key_of-found.ensures.same)
    (c.follow_word-word.ensures.on (c.follow_word-word.result - 1) some)

pub returns-then-found-key-clause-found : goal.returns-then-found-key-clause-found
returns-then-found-key-clause-found g c =
    let on = c.chain.invariant.on in
    let some : c.follow_word-word.result ≡ suc (c.follow_word-word.result - 1) =
    omega (arith, c.if-word-eq0.false) in
    let f = followed_to _ _ _ _ _ _ _ _ _ _ some (c.follow_word-word.ensures.came on.0 on.1) in
    let held = came_holds _ _ _ _ _ _ _ _ _ f in
    subst (λ (s : Seated g.row.P-Whole-Known.Denot). IsFound (g.F.Shape.fits c.args.self.now.plan)
    c.args.key
    (g.P.Within.lens.get s.view.client).known
    (c.follow_word-word.result - 1))
    (sym c.key_of-found.ensures.same)
    (found_it _ _ _ _ _ _ _ _ _ _ _ f (c.key_of-found.ensures.told f.words (inr held))
    c.if-found-key.true)

pub returns-then-found-key-clause-searched : goal.returns-then-found-key-clause-searched
returns-then-found-key-clause-searched g c =
    let i = c.chain.invariant in
    let some : c.follow_word-word.result ≡ suc (c.follow_word-word.result - 1) =
    omega (arith, c.if-word-eq0.false) in
    let f = followed_to _ _ _ _ _ _ _ _ _ _ some (c.follow_word-word.ensures.came i.on.0 i.on.1) in
    let held = came_holds _ _ _ _ _ _ _ _ _ f in
    let told = c.key_of-found.ensures.told f.words (inr held) in
    subst (λ (s : Seated g.row.P-Whole-Known.Denot).
    IsSearched c.args.root c.args.key (g.P.Within.lens.get c.args.seat.now.view.client).known
    (Some (c.follow_word-word.result - 1))
    (g.P.Within.lens.get s.view.client).known)
    (sym c.key_of-found.ensures.same)
    (arrives _ _ _ _ _ _ _ _ _ _ _ (Some (c.follow_word-word.result - 1)) i.path f
    (refl, omega (arith, told, c.if-found-key.true)))

pub returns-then-found-key-2-clause-searched : goal.returns-then-found-key-2-clause-searched
returns-then-found-key-2-clause-searched g c =
    let i = c.chain.invariant in
    let some : c.follow_word-word.result ≡ suc (c.follow_word-word.result - 1) =
    omega (arith, c.if-word-eq0.false) in
    let f = followed_to _ _ _ _ _ _ _ _ _ _ some (c.follow_word-word.ensures.came i.on.0 i.on.1) in
    let held = came_holds _ _ _ _ _ _ _ _ _ f in
    let told = c.key_of-found.ensures.told f.words (inr held) in
    subst (λ (s : Seated g.row.P-Whole-Known.Denot).
    IsSearched c.args.root c.args.key (g.P.Within.lens.get c.args.seat.now.view.client).known None
    (g.P.Within.lens.get s.view.client).known)
    (sym c.key_of-found.ensures.same)
    (arrives _ _ _ _ _ _ _ _ _ _ _ None i.path f (inr (omega (arith, told, c.if-found-key-2.true))))

pub returns-then-word-eq0-clause-searched : goal.returns-then-word-eq0-clause-searched
returns-then-word-eq0-clause-searched g c =
    let i = c.chain.invariant in
    let none : c.follow_word-word.result ≡ 0 = omega (arith, c.if-word-eq0.true) in
    let f = followed_to _ _ _ _ _ _ _ _ _ _ none
    (c.follow_word-word.ensures.came i.on.0 i.on.1) in
    arrives _ _ _ _ _ _ _ _ _ _ _ None i.path f (inl refl)

pub returns-then-found-key-2-clause-walking : goal.returns-then-found-key-2-clause-walking
returns-then-found-key-2-clause-walking g c =
    subst (λ (s : Seated g.row.P-Whole-Known.Denot). IsWalking c.args.self.now
    (seat_part g.P.Within.lens s))
    (sym c.key_of-found.ensures.same) c.follow_word-word.ensures.walking

pub chain-smaller : goal.chain-smaller
chain-smaller g c =
    let on = c.chain.invariant.on in
    let some : c.follow_word-word.result ≡ suc (c.follow_word-word.result - 1) =
    omega (arith, c.if-word-eq0.false) in
    let f = followed_to _ _ _ _ _ _ _ _ _ _ some (c.follow_word-word.ensures.came on.0 on.1) in
    let came = came_to _ _ _ _ _ _ _ _ _ f in
    let held = came_holds _ _ _ _ _ _ _ _ _ f in
    let up : slice_index on.0 0 < slice_index f.words 0 =
    c.requires.chain.ascends on.0 f.words came.joined in
    let told = c.key_of-found.ensures.told f.words (inr held) in
    omega (arith, up, told, on.2, c.if-found-key.false, c.if-found-key-2.false)

pub chain-preserved : goal.chain-preserved
chain-preserved g c =
    let i = c.chain.invariant in
    let some : c.follow_word-word.result ≡ suc (c.follow_word-word.result - 1) =
    omega (arith, c.if-word-eq0.false) in
    let f = followed_to _ _ _ _ _ _ _ _ _ _ some (c.follow_word-word.ensures.came i.on.0 i.on.1) in
    let came = came_to _ _ _ _ _ _ _ _ _ f in
    let held = came_holds _ _ _ _ _ _ _ _ _ f in
    let told = c.key_of-found.ensures.told f.words (inr held) in
    record {
      same = subst (λ (s : Seated g.row.P-Whole-Known.Denot). s ≡ after_word_step c.args.seat.now
          (g.P.Within.lens.set c.args.seat.now.view.client (g.P.Within.lens.get s.view.client)))
          (sym c.key_of-found.ensures.same)
          (seat_again g.P.Within.lens g.met.P.Within.is_lens.again c.args.seat.now c.chain.seat
          c.follow_word-word.new.seat i.same c.follow_word-word.ensures.same);
      planned =
          ap (λ (s : Seated g.row.P-Whole-Known.Denot). (g.P.Within.lens.get s.view.client).plan)
          c.key_of-found.ensures.same
          ∙ (c.follow_word-word.ensures.walking.seat_of.planned
          ∙ sym c.requires.walking.seat_of.planned);
      reader = subst (λ (s : Seated g.row.P-Whole-Known.Denot). IsReader
          (g.P.Within.lens.get s.view.client).known)
          (sym c.key_of-found.ensures.same) c.follow_word-word.ensures.walking.reads;
      inside = came.inside;
      on = subst (λ (s : Seated g.row.P-Whole-Known.Denot).
          (words : List ℕ)
          × IsOn (g.F.Shape.first c.args.self.now.plan) c.args.self.now.plan.roots
          (g.P.Within.lens.get s.view.client).known (c.follow_word-word.result - 1) words
          × (c.key_of-found.result ≤ slice_index words 0))
          (sym c.key_of-found.ensures.same) (f.words, inr held, omega (arith, told));
      path = subst (λ (s : Seated g.row.P-Whole-Known.Denot). IsOnPath c.args.root c.args.key
          (g.P.Within.lens.get c.args.seat.now.view.client).known
          (g.P.Within.lens.get s.view.client).known (c.follow_word-word.result - 1))
          (sym c.key_of-found.ensures.same)
          (goes_on _ _ _ _ _ _ _ _ _ _ _ i.path f
          (omega (arith, told, c.if-found-key.false, c.if-found-key-2.false)));
    }
