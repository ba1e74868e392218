use Rattle.std.proofs.Common.{◌≡◌, ℕ, ◌<◌, Bool, true, false, not, nat_lt, List, length, None, Some}
use Rattle.std.proofs.Common.{refl, ap, sym, subst, ◌∙◌}
use Rattle.std.specs.Prelude.{if◌then◌else◌}
use Rattle.std.specs.Arc.{arc_value}
use Rattle.rcu_seq.specs.Seq.{number_of}
use Rattle.rcu_seq.specs.declared.fault.Fault.TheVariants as fault
use Rattle.rcu_node.specs.CpuSet.{listed}
use Rattle.rcu_node.proofs.CpuSetLemmas.{length-listed}
use Rattle.rcu_state.specs.GpState.{Grace, GraceWithRooms}
use Rattle.rcu_live.specs.Board.{Object}
use Rattle.rcu_live.specs.Engine.{after_own_word_loads, begun_from, loaded_word, next_number}
use Rattle.rcu_live.specs.Numbers.{reports_quiescence}
use Rattle.rcu_live.specs.View.{after_begin_store}
use Rattle.rcu_live.specs.declared.view.View.{View}
use Rattle.rcu_live.proofs.Begins.{begun_awaits, begun_is}
use Rattle.rcu_live.proofs.engine.Engine.begin.Goals as goal

pub report_all-requires-clause-already_quiescent : goal.report_all-requires-clause-already_quiescent
report_all-requires-clause-already_quiescent g c =
    let f = c.load_own_words.ensures in
    ap (λ (l : List Bool). length l) f.already_quiescent
    ∙ length-listed _ _
    ∙ sym (ap (λ (y : Grace g.row.T.Denot). length y.processors.awaited)
    (ap (λ (s : GraceWithRooms g.row.T.Denot). s.grace) c.in-Ok.ensures.state)
    ∙ ap (λ (l : List Bool). length l) f.state.these
    ∙ length-listed _ _)

pub invariant_of-self : goal.invariant_of-self
invariant_of-self g c =
    let i = c.self.invariant in
    let f = c.load_own_words.ensures in
    let old = c.self.inside.gp.grace in
    let own_word_loads = c.load_own_words.new.seat.me.0.own_word_loads in
    let cpus = c.deref-2.result.now.cpus in
    let same : cpus ≡ (arc_value c.self.inside.board).cpus =
    ap (λ (o : Object g.row.P-Plan.Denot). o.cpus) c.deref-2.ensures in
    let number = c.in_ok-number.ensures.number in
    let quiescent =
    f.already_quiescent
    ∙ ap (λ (n : ℕ). listed cpus (λ d. nat_lt n (loaded_word own_word_loads d)))
    c.start.ensures.number in
    let state : c.report_all.new.gp.grace ≡ begun_from cpus (loaded_word own_word_loads) old =
    begun_is old c.load_own_words.new.gp.grace c.begin-2.new.self.grace c.report_all.new.gp.grace
    cpus (loaded_word own_word_loads) c.load_own_words.new.by_word.already_quiescent
    c.in_ok-number.number f.state.seq f.state.needed f.state.lists f.state.these quiescent number
    (ap (λ (s : GraceWithRooms g.row.T.Denot). s.grace) c.in-Ok.ensures.state)
    c.report_all.ensures in
    let view : c.load_own_words.new.seat.me.0
    ≡ after_own_word_loads (after_begin_store c.self.inside.seat.me.0 c.in_ok-number.number)
    (loaded_word own_word_loads) cpus =
    f.view
    ∙ ap
    (λ (v : View g.row.P-Known.Denot). after_own_word_loads v (loaded_word own_word_loads) cpus)
    c.begin.ensures.told in
    record {
      fits = f.table ∙ c.begin.ensures.table ∙ i.fits;
      role = ap (λ (v : View g.row.P-Known.Denot). v.role) view ∙ i.role;
      number =
          ap (λ (v : View g.row.P-Known.Denot). v.seen) view ∙ number
          ∙ sym (ap (λ (y : Grace g.row.T.Denot). number_of y.seq) state);
      epoch = ap (λ (y : Grace g.row.T.Denot). y.seq.epoch) state ∙ i.epoch;
      cpus =
          ap (λ (y : Grace g.row.T.Denot). length y.processors.awaited) state
          ∙ length-listed _ _
          ∙ same;
      already_quiescent =
          ap (λ (l : List Bool). length l) f.already_quiescent ∙ length-listed _ _ ∙ same;
      awaited =
          λ runs d low none. begun_awaits old c.report_all.new.gp.grace cpus
          (loaded_word own_word_loads) own_word_loads state
          (ap (λ (v : View g.row.P-Known.Denot). v.own_word_loads) view) runs d
          (subst (λ (n : ℕ). d < n) (sym same) low) none;
      same =
          f.awaited
          ∙ ap
          (λ (n : ℕ). listed cpus (λ d. not (reports_quiescence n (loaded_word own_word_loads d))))
          (c.start.ensures.number ∙ number)
          ∙ sym (ap (λ (y : Grace g.row.T.Denot). y.processors.awaited) state);
      dealt = ap (λ (v : View g.row.P-Known.Denot). v.cpu) view ∙ i.dealt;
      online =
          f.online ∙ f.state.these
          ∙ sym (ap (λ (y : Grace g.row.T.Denot). y.processors.online) state);
    }

-- if a begin is not refused, no grace period runs
none_runs : (running is_last : Bool)
    → (if running then Some fault.Running else (if is_last then Some fault.Exhausted else None))
    ≡ None
    → running ≡ false
none_runs true is_last accepted = absurd (cc)
none_runs false is_last accepted = refl

pub returns-clause-made : goal.returns-clause-made
returns-clause-made g c =
    let f = c.load_own_words.ensures in
    let old = c.self.inside.gp.grace in
    let v = c.self.inside.seat.me.0 in
    let own_word_loads = c.load_own_words.new.seat.me.0.own_word_loads in
    let cpus = c.deref-2.result.now.cpus in
    let same : cpus ≡ (arc_value c.self.inside.board).cpus =
    ap (λ (o : Object g.row.P-Plan.Denot). o.cpus) c.deref-2.ensures in
    let number = c.in_ok-number.ensures.number in
    let quiescent =
    f.already_quiescent
    ∙ ap (λ (n : ℕ). listed cpus (λ d. nat_lt n (loaded_word own_word_loads d)))
    c.start.ensures.number in
    let state : c.report_all.new.gp.grace ≡ begun_from cpus (loaded_word own_word_loads) old =
    begun_is old c.load_own_words.new.gp.grace c.begin-2.new.self.grace c.report_all.new.gp.grace
    cpus (loaded_word own_word_loads) c.load_own_words.new.by_word.already_quiescent
    c.in_ok-number.number f.state.seq f.state.needed f.state.lists f.state.these quiescent number
    (ap (λ (s : GraceWithRooms g.row.T.Denot). s.grace) c.in-Ok.ensures.state)
    c.report_all.ensures in
    let view : c.load_own_words.new.seat.me.0
    ≡ after_own_word_loads (after_begin_store v (next_number old)) (loaded_word own_word_loads)
    cpus =
    f.view
    ∙ ap
    (λ (u : View g.row.P-Known.Denot). after_own_word_loads u (loaded_word own_word_loads) cpus)
    (c.begin.ensures.told ∙ ap (after_begin_store v) number) in
    rw (← c.self.view_is)
    (record {
      may = none_runs old.seq.running _ (sym c.in_ok-number.ensures.fault);
      left = λ i. record {
        table = (arc_value c.self.inside.board).table;
        cpus = (arc_value c.self.inside.board).cpus;
        view =
            (view
            ∙ ap
            (after_own_word_loads (after_begin_store v (next_number old))
            (loaded_word own_word_loads))
            same) i;
        grace = (state ∙ ap (λ (n : ℕ). begun_from n (loaded_word own_word_loads) old) same) i;
      };
    })
