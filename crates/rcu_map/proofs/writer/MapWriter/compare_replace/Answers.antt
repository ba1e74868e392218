use Rattle.std.proofs.Common.{◌≡◌, ◌≢◌, ◌∙◌, Ok, Result, ap, subst, sym}
use Rattle.rcu_graph.specs.declared.writer.Full.{Full}
use Rattle.rcu_map.specs.Compared.{HasComparedToReplace, compared}
use Rattle.rcu_map.specs.Keys.{key_in}
use Rattle.rcu_map.specs.Words.{as_words}
use Rattle.rcu_map.specs.declared.compared.Compared.{Compared}
use Rattle.rcu_map.specs.declared.compared.Compared.TheVariants.{Changed}
use Rattle.rcu_map.proofs.Compares.{none_replaced, replaced_of}
use Rattle.rcu_map.proofs.writer.MapWriter.compare_replace.Goals as goal

pub returns-in-Gone : goal.returns-in-Gone
returns-in-Gone g c =
    let to = c.to_words.ensures in
    let keyed : g.E.Entry.key_of c.args.entry ≡ key_in c.to_words.result =
    ap g.E.Entry.key_of (sym to.inverse) ∙ g.met.E.Entry.tells c.to_words.result to.whole in
    let done = subst (λ (f : Compared). HasComparedToReplace as_words g.E.Invariant.holds key_in
    (key_in c.to_words.result) c.to_words-words.result c.to_words.result c.args.self.now
    (compared (Ok f) c.compare_replace_words.new.read) c.compare_replace_words.new.self)
    c.in-Gone.is c.in_ok-compare_replace_words.ensures.replaced in
    rw (keyed, sym c.to_words-words.ensures.words, sym to.words)
    (none_replaced g.E.Value.decode g.E.Value.valid g.E.Entry.key_of g.E.Invariant.holds
    c.args.self.now c.compare_replace_words.new.self (key_in c.to_words.result)
    c.to_words-words.result c.to_words.result done)

pub returns-in-Same : goal.returns-in-Same
returns-in-Same g c =
    let to = c.to_words.ensures in
    let keyed : g.E.Entry.key_of c.args.entry ≡ key_in c.to_words.result =
    ap g.E.Entry.key_of (sym to.inverse) ∙ g.met.E.Entry.tells c.to_words.result to.whole in
    let words = c.compare_replace_words.new.read in
    let done = subst (λ (f : Compared). HasComparedToReplace as_words g.E.Invariant.holds key_in
    (key_in c.to_words.result) c.to_words-words.result c.to_words.result c.args.self.now
    (compared (Ok f) c.compare_replace_words.new.read) c.compare_replace_words.new.self)
    c.in-Same.is c.in_ok-compare_replace_words.ensures.replaced in
    let stays = subst (λ (f : Compared).
    ◌≢◌ {A = Result Compared Full} (Ok f) (Ok Changed)
    → c.compare_replace_words.new.read ≡ c.to_words-words.result)
    c.in-Same.is c.in_ok-compare_replace_words.ensures.unchanged in
    let told = sym c.to_words-words.ensures.inverse
    ∙ ap g.E.Value.decode (sym (stays (λ e. absurd (cc)))) in
    rw (keyed, sym c.to_words-words.ensures.words, sym to.words)
    (replaced_of g.E.Value.decode g.E.Value.valid g.E.Entry.key_of g.E.Invariant.holds
    c.args.self.now c.compare_replace_words.new.self (key_in c.to_words.result)
    c.to_words-words.result words c.args.read told (g.met.E.Entry.tells words done.old.sound)
    c.requires.sound_read c.to_words.result done)

pub returns-in-Changed : goal.returns-in-Changed
returns-in-Changed g c =
    let to = c.to_words.ensures in
    let keyed : g.E.Entry.key_of c.args.entry ≡ key_in c.to_words.result =
    ap g.E.Entry.key_of (sym to.inverse) ∙ g.met.E.Entry.tells c.to_words.result to.whole in
    let words = c.compare_replace_words.new.read in
    let done = subst (λ (f : Compared). HasComparedToReplace as_words g.E.Invariant.holds key_in
    (key_in c.to_words.result) c.to_words-words.result c.to_words.result c.args.self.now
    (compared (Ok f) c.compare_replace_words.new.read) c.compare_replace_words.new.self)
    c.in-Changed.is c.in_ok-compare_replace_words.ensures.replaced in
    rw (keyed, sym c.to_words-words.ensures.words, sym to.words)
    (replaced_of g.E.Value.decode g.E.Value.valid g.E.Entry.key_of g.E.Invariant.holds
    c.args.self.now c.compare_replace_words.new.self (key_in c.to_words.result)
    c.to_words-words.result words c.of_words.result c.of_words.ensures.told
    (g.met.E.Entry.tells words done.old.sound) c.of_words.ensures.sound c.to_words.result done)
