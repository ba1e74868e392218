use Rattle.std.proofs.Common.{◌≡◌, ◌<◌, ◌∙◌, length, sym, ap, subst, inl, inr, arith, refl}
use Rattle.std.proofs.lemmas.Bool.{false≢true, true≢false}
use Rattle.rcu_live.specs.CpuSeat.{Seated, after_word_step}
use Rattle.rcu_live.specs.InPart.{seat_part}
use Rattle.rcu_live.proofs.InPart.{seat_again, seat_same}
use Rattle.rcu_graph.specs.Graph.{IsWalking}
use Rattle.rcu_graph.specs.declared.known.Planned.{Planned}
use Rattle.rcu_graph.specs.declared.plan.Plan.{Plan}
use Rattle.rcu_map.specs.After.{IsBehind, IsEntryAfter}
use Rattle.rcu_map.specs.Keys.{bucket_of, key_in}
use Rattle.rcu_map.specs.Listing.{at_root}
use Rattle.rcu_map.specs.Words.{as_words}
use Rattle.rcu_map.proofs.Nearing.{begins, is_behind, is_entry, is_none, less_left}
use Rattle.rcu_map.proofs.Nearing.{limit_of, passes}
use Rattle.rcu_map.proofs.Stepping.{may_begin, on_entry, step_held, went_on}
use Rattle.rcu_map.proofs.map.Map.next_words_after.Goals as goal
use Rattle.rcu_map.proofs.map.Map.next_words_after.Goals.{else-at-bucket, then-at-bucket}

pub buckets-init : goal.buckets-init
buckets-init g c =
    let p : Plan = c.args.self.now.plan in
    let is : c.bucket_of-bucket.result ≡ bucket_of p.roots p.seed c.args.key =
    c.bucket_of-bucket.ensures.is
    ∙ ap (λ (q : Plan). bucket_of q.roots q.seed c.args.key) c.plan-plan.ensures.plan in
    let inside = c.bucket_of-bucket.ensures.inside in
    let roots = ap (λ (q : Plan). q.roots) c.plan-plan.ensures.plan in
    record {
      same = sym (ap (after_word_step c.args.seat.now)
          (g.met.P.Within.is_lens.as_it_is c.args.seat.now.view.client));
      may = may_begin c.args.self.now (seat_part g.P.Within.lens c.args.seat.now)
          c.bucket_of-bucket.result c.at_root-at.result c.requires.walking
          (omega (arith, inside, roots)) c.plan-plan.ensures.roots
          c.at_root-at.ensures;
      entry = refl;
      nearing = begins p.roots p.seed c.args.key
          (g.P.Within.lens.get c.args.seat.now.view.client).known c.at_root-at.result
          (c.at_root-at.ensures ∙ ap at_root is);
    }

pub read_words-requires : goal.read_words-requires
read_words-requires g c =
    let up = c.if-at-limit.true in
    let at = on_entry g.E.Invariant.holds c.args.self.now
    (seat_part g.P.Within.lens c.buckets.seat) (seat_part g.P.Within.lens c.step-at.new.seat)
    c.buckets.at c.step-at.result c.step-at.ensures.stepped (omega (arith, up)) in (
      omega arith,
      (
        record { walking = at.walking; words = at.words; on = inr at.held; inside = at.inside },
        ap length c.buckets.invariant.entry ∙ c.requires.room,
      ),
    )

pub buckets-smaller : goal.buckets-smaller
buckets-smaller g c =
    less_left g.E.Invariant.holds c.args.self.now (seat_part g.P.Within.lens c.buckets.seat)
    (seat_part g.P.Within.lens c.step-at.new.seat) c.buckets.at c.step-at.result
    c.step-at.ensures.stepped c.buckets.invariant.may.small

pub buckets-preserved : goal.buckets-preserved
buckets-preserved g c =
    let p : Plan = c.args.self.now.plan in
    let is : c.bucket_of-bucket.result ≡ bucket_of p.roots p.seed c.args.key =
    c.bucket_of-bucket.ensures.is
    ∙ ap (λ (q : Plan). bucket_of q.roots q.seed c.args.key) c.plan-plan.ensures.plan in
    let old = seat_part g.P.Within.lens c.buckets.seat in
    let new = seat_part g.P.Within.lens c.step-at.new.seat in
    let s = c.step-at.ensures.stepped in
    let i = c.buckets.invariant in
    let low = c.if-at-limit.false in
    record {
      same = seat_again g.P.Within.lens g.met.P.Within.is_lens.again c.args.seat.now
          c.buckets.seat c.step-at.new.seat i.same c.step-at.ensures.others;
      may = s.may;
      entry = i.entry;
      nearing = passes g.E.Invariant.holds c.args.self.now old new
          c.buckets.at c.step-at.result s c.args.key c.if-at-bucket.limit
          (g.P.Within.lens.get c.args.seat.now.view.client).known i.nearing
          (limit_of c.bucket_of-bucket.result (bucket_of p.roots p.seed c.args.key) c.args.key
          c.step-at.result.bucket c.if-at-bucket.limit is
          (elim c.if-at-bucket.branch [
            | then-at-bucket w ↦ inl (w.if-at-bucket.true, w.limit-is)
            | else-at-bucket w ↦ inr (w.if-at-bucket.false, w.limit-is)
          ])) low;
    }

pub returns-then-at-limit : goal.returns-then-at-limit
returns-then-at-limit g c =
    let p : Plan = c.args.self.now.plan in
    let is : c.bucket_of-bucket.result ≡ bucket_of p.roots p.seed c.args.key =
    c.bucket_of-bucket.ensures.is
    ∙ ap (λ (q : Plan). bucket_of q.roots q.seed c.args.key) c.plan-plan.ensures.plan in
    let old = seat_part g.P.Within.lens c.buckets.seat in
    let new = seat_part g.P.Within.lens c.step-at.new.seat in
    let s = c.step-at.ensures.stepped in
    let i = c.buckets.invariant in
    let l = limit_of c.bucket_of-bucket.result (bucket_of p.roots p.seed c.args.key) c.args.key
    c.step-at.result.bucket c.if-at-bucket.limit is
    (elim c.if-at-bucket.branch [
      | then-at-bucket w ↦ inl (w.if-at-bucket.true, w.limit-is)
      | else-at-bucket w ↦ inr (w.if-at-bucket.false, w.limit-is)
    ]) in
    let up = c.if-at-limit.true in
    let keyed : 0 < c.step-at.result.key = omega (arith, up) in
    let w = went_on g.E.Invariant.holds c.args.self.now old new c.buckets.at c.step-at.result s
    keyed in
    let k = w.key in
    let whole = s.whole keyed in
    let told = c.read_words.ensures.told s.hop.words
    (inr (step_held g.E.Invariant.holds c.args.self.now old new c.buckets.at c.step-at.result s
    keyed))
    whole k in
    let key_is : key_in c.read_words.new.entry ≡ c.step-at.result.key = ap key_in told ∙ k in
    let was = (g.P.Within.lens.get c.args.seat.now.view.client).known in
    let back = ap (seat_part g.P.Within.lens) (sym c.read_words.ensures.same) in
    record {
      same = seat_same g.P.Within.lens c.args.seat.now c.step-at.new.seat c.read_words.new.seat
          c.read_words.ensures.same
          (seat_again g.P.Within.lens g.met.P.Within.is_lens.again c.args.seat.now c.buckets.seat
          c.step-at.new.seat i.same c.step-at.ensures.others);
      walking = subst (IsWalking c.args.self.now) back s.may.walking;
      next = subst (λ (x : Seated Planned). IsEntryAfter g.E.Invariant.holds as_words
          p.roots p.seed c.args.key was x.view.client.known
          c.read_words.new.entry) back
          (is_entry g.E.Invariant.holds c.args.self.now old new c.buckets.at c.step-at.result s
          c.args.key c.if-at-bucket.limit was i.nearing l as_words c.read_words.new.entry up
          told);
      behind = λ there. subst (IsBehind p.roots p.seed c.args.key) (sym key_is)
          (is_behind g.E.Invariant.holds c.args.self.now old new c.buckets.at c.step-at.result s
          c.args.key c.if-at-bucket.limit was i.nearing l up);
      keyed = λ there. omega (arith, key_is, keyed);
      whole = λ there. subst g.E.Invariant.holds (sym told)
          (whole.entry (omega (arith, k, keyed)));
      unchanged = λ none. absurd (true≢false none);
    }

pub returns : goal.returns
returns g c =
    let p : Plan = c.args.self.now.plan in
    let i = c.buckets.invariant in
    let past = c.buckets-test.false in
    let within = i.may.within in
    let roots = ap (λ (q : Plan). q.roots) c.plan-plan.ensures.plan in
    record {
      same = i.same;
      walking = i.may.walking;
      next = is_none p.roots p.seed c.args.key
          (g.P.Within.lens.get c.args.seat.now.view.client).known
          (g.P.Within.lens.get c.buckets.seat.view.client).known c.buckets.at i.nearing
          (omega (arith, past, within, roots));
      behind = λ there. absurd (false≢true there);
      keyed = λ there. absurd (false≢true there);
      whole = λ there. absurd (false≢true there);
      unchanged = λ none. i.entry;
    }
