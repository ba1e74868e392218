-- A property of the rows that each use of an option keeps is kept by a walk over words that has no
-- fault.
use Rattle.std.proofs.Common.{◌≡◌, ◌&&◌, not, ℕ, zero, suc, Bool, true, false, List, [], ◌∷◌}
use Rattle.std.proofs.Common.{length, drop, fold, Option, Some, None, is_some, refl, if◌then◌else◌}
use Rattle.std.specs.Prelude.{encode_utf8, slice_get}
use Rattle.std.specs.List.{find}
use Rattle.std.specs.Option.{option_map_or}
use Rattle.std.specs.Str.{bytes_eq, chars}
use Rattle.clap.specs.Lexer.{long_of, short_of}
use Rattle.clap.specs.Walk.{Held, Names, Outcome, Row, Rule, Step, Text, Waiting, Walk, after_flag}
use Rattle.clap.specs.Walk.{after_step, arg_by_id, arg_by_index, arg_by_long, arg_by_short}
use Rattle.clap.specs.Walk.{attached_value, bundle_met, bundle_step, done, flag_met, has_long}
use Rattle.clap.specs.Walk.{has_short, idle, is_pending, long_met, long_or_other, next, option}
use Rattle.clap.specs.Walk.{option_met, option_word, plain, plain_word, positional, reacted}
use Rattle.clap.specs.Walk.{refused, settled, settled_rows, short_met, short_or_plain, subcommand}
use Rattle.clap.specs.Walk.{subcommand_met, subcommand_or_other, takes_several, takes_values}
use Rattle.clap.specs.Walk.{to_positional, trailing, used, used_by_id, value, waits, walked}
use Rattle.clap.specs.Walk.{walked_from, word_met}
use Rattle.clap.specs.Simple.{Shape}
use Rattle.clap.specs.Kinds.{Kinds, or_else}
use Rattle.clap.specs.Faults.{bundle_step_fault, flag_word_fault, flags_fault, long_fault}
use Rattle.clap.specs.Faults.{option_fault, other_fault, positional_fault, react_fault}
use Rattle.clap.specs.Faults.{settle_fault, short_fault, step_fault, stray_fault, turn_fault}
use Rattle.clap.specs.Faults.{use_fault, walk_fault, word_fault}
use Rattle.clap.specs.declared.error.kind.ErrorKind.TheVariants as kind

-- two steps that have no fault: the first has none
pub first_none : (a b : Kinds) → or_else a b ≡ [] → a ≡ []
first_none [] b e = refl
first_none (k ∷ ks) b e = e

-- and the second has none
pub next_none : (a b : Kinds) → or_else a b ≡ [] → b ≡ []
next_none [] b e = e
next_none (k ∷ ks) b e = cc

module _ (s : Shape) (names : Names) (Good : List Row → Type 0)
    (keeps : (p : Rule → Bool) (a : Rule) (values : List Text) (rows : List Row)
    → find p s.rules ≡ Some a → use_fault s.args_override_self a values rows ≡ [] → Good rows
    → Good (used a values rows)) where
  -- the pending argument is used, by its rows
  settles_rows : (pending : Option (Text × List Text)) (rows : List Row)
      → option_map_or (λ p. option_map_or (λ a. use_fault s.args_override_self a p.1 rows)
      (arg_by_id s.rules p.0) []) pending [] ≡ []
      → Good rows → Good (settled_rows s.rules pending rows)
  settles_rows None rows e g = g
  settles_rows (Some p) rows e g = by_id (arg_by_id s.rules p.0) refl e
    where
      by_id : (found : Option Rule) → arg_by_id s.rules p.0 ≡ found
          → option_map_or (λ a. use_fault s.args_override_self a p.1 rows) found [] ≡ []
          → Good (used_by_id found p.1 rows)
      by_id None is e = g
      by_id (Some a) is e = keeps (λ b. bytes_eq b.id p.0) a p.1 rows is e g

  -- the pending argument is used
  pub settles : (h : Held) → settle_fault s.rules s.args_override_self h ≡ [] → Good h.rows
      → Good (settled s.rules h).rows
  settles h e g = settles_rows h.pending h.rows e g

  -- the pending argument is used, and then this one
  reacts : (p : Rule → Bool) (a : Rule) → find p s.rules ≡ Some a → (values : List Text) (h : Held)
      → react_fault s.rules s.args_override_self a values h ≡ []
      → Good h.rows → Good (reacted s.rules a values h).rows
  reacts p a is values h e g =
      keeps p a values (settled s.rules h).rows is
      (next_none (settle_fault s.rules s.args_override_self h) _ e)
      (settles h (first_none _ (use_fault s.args_override_self a values (settled s.rules h).rows) e)
      g)

  -- an option, with or without its value
  options : (p : Rule → Bool) (a : Rule) → find p s.rules ≡ Some a → (v : Option Text) (h : Held)
      → option_fault s.rules s.args_override_self a v h ≡ []
      → Good h.rows → Good (option_met s.rules a v h).0.rows
  options p a is (Some v) h e g = reacts p a is (v ∷ []) h e g
  options p a is None h e g = settles h e g

  -- a long option or flag
  longs : (p : Rule → Bool) (found : Option Rule)
      → find p s.rules ≡ found
      → (v : Option Text) (h : Held)
      → long_fault s.rules s.args_override_self found v h ≡ []
      → Good h.rows
      → Good (long_met s.rules found v h).0.rows
  longs p None is v h e g = g
  longs p (Some a) is v h e g = by_kind (takes_values a) v e
    where
      by_kind : (b : Bool) (v : Option Text)
          → (if b
          then option_fault s.rules s.args_override_self a v h
          else (if is_some v
          then kind.TooManyValues ∷ []
          else react_fault s.rules s.args_override_self a [] h))
          ≡ []
          → Good (if b then option_met s.rules a v h else flag_met s.rules a v h).0.rows
      by_kind true v e = options p a is v h e g
      by_kind false (Some x) e = g
      by_kind false None e = reacts p a is [] h e g

  -- a short option or flag, and the rest of its word
  shorts : (p : Rule → Bool) (found : Option Rule) → find p s.rules ≡ found
      → (rest : Text) (h : Held) (go_on : Held → Held × Outcome) (fault : Held → Kinds)
      → ((k : Held) → fault k ≡ [] → Good k.rows → Good (go_on k).0.rows)
      → short_fault s.rules s.args_override_self found rest h fault ≡ [] → Good h.rows
      → Good (short_met s.rules found rest h go_on).0.rows
  shorts p None is rest h go_on fault step e g = g
  shorts p (Some a) is rest h go_on fault step e g = by_kind (takes_values a) e
    where
      by_kind : (b : Bool)
          → (if b
          then option_fault s.rules s.args_override_self a (attached_value rest) h
          else or_else (react_fault s.rules s.args_override_self a [] h)
          (fault (reacted s.rules a [] h)))
          ≡ []
          → Good
          (if b
          then option_met s.rules a (attached_value rest) h
          else go_on (reacted s.rules a [] h)).0.rows
      by_kind true e = options p a is (attached_value rest) h e g
      by_kind false e = step (reacted s.rules a [] h)
          (next_none (react_fault s.rules s.args_override_self a [] h) _ e)
          (reacts p a is [] h (first_none _ (fault (reacted s.rules a [] h)) e) g)

  -- the flags of one word
  bundles : (k : ℕ) (flags : Text) (skip : ℕ) (so_far : Outcome) (h : Held)
      → flags_fault s.rules s.args_override_self k flags skip h ≡ []
      → Good h.rows → Good (bundle_met s.rules k flags skip so_far h).0.rows
  unfolding bundle_met flags_fault
  bundles zero flags skip so_far h e g = g
  bundles (suc k) flags skip so_far h e g =
      step (λ rest less outcome held none good. bundles k rest less outcome held none good)
      (slice_get (chars flags) 0) skip e
    where
      step : ((rest : Text) (less : ℕ) (outcome : Outcome) (held : Held)
          → flags_fault s.rules s.args_override_self k rest less held ≡ [] → Good held.rows
          → Good (bundle_met s.rules k rest less outcome held).0.rows)
          → (first : Option ℕ) (skip : ℕ)
          → bundle_step_fault s.rules s.args_override_self first flags skip h
          (flags_fault s.rules s.args_override_self k) ≡ []
          → Good (bundle_step s.rules first flags skip so_far h (bundle_met s.rules k)).0.rows
      step again None skip e = g
      step again (Some x) zero e =
          let rest = drop (length (encode_utf8 x)) flags in
          shorts (λ a. not (is_some a.index) && has_short a x) (arg_by_short s.rules x) refl rest h
          (bundle_met s.rules k rest 0 done) (flags_fault s.rules s.args_override_self k rest 0)
          (λ held none good. again rest 0 done held none good) e g
      step again (Some x) (suc skip) e =
          again (drop (length (encode_utf8 x)) flags) skip so_far h e g

  -- a word that is no flag
  plain_rows : (waiting : Waiting) (word : Text) (h : Held) → Good h.rows
      → Good (plain_word s.rules waiting word h).0.rows
  plain_rows (option id) word h g = by_rule (arg_by_id s.rules id)
    where
      by_rule : (found : Option Rule) → Good (option_word found id word h).0.rows
      by_rule None = g
      by_rule (Some a) = g
  plain_rows idle word h g = g
  plain_rows positional word h g = g

  -- the rest behind a flag
  after_rows : (waiting : Waiting) (word : Text) (h : Held) (outcome : Outcome) → Good h.rows
      → Good (after_flag s.rules waiting word h outcome).0.rows
  after_rows waiting word h done g = g
  after_rows waiting word h (waits id) g = g
  after_rows waiting word h plain g = plain_rows waiting word h g
  after_rows waiting word h refused g = plain_rows waiting word h g

  -- a word, before it goes to a positional
  words : (is_trailing : Bool) (waiting : Waiting) (position : ℕ) (word : Text) (h : Held)
      → word_fault s names is_trailing waiting word h ≡ []
      → Good h.rows → Good (word_met s.rules names is_trailing waiting position word h).0.rows
  words true waiting position word h e g = g
  words false waiting position word h e g = by_name (subcommand_met names waiting word) e
    where
      by_short : (flags : Option Text)
          → option_map_or (λ x. flags_fault s.rules s.args_override_self (length x) x h.skip
          (record h { skip = 0 })) flags [] ≡ []
          → Good (short_or_plain s.rules waiting word flags h).0.rows
      by_short None e = plain_rows waiting word h g
      by_short (Some flags) e =
          after_rows waiting word _ _
          (bundles (length flags) flags h.skip plain (record h { skip = 0 }) e g)

      by_long : (parts : Option (Text × Option Text))
          → flag_word_fault s.rules s.args_override_self parts word h ≡ []
          → Good (long_or_other s.rules waiting word parts h).0.rows
      by_long None e = by_short (short_of word) e
      by_long (Some p) e =
          after_rows waiting word _ _ (longs (λ a. not (is_some a.index) && has_long a p.0)
          (arg_by_long s.rules p.0) refl p.1 h e g)

      by_dashes : (b : Bool)
          → (if b then [] else flag_word_fault s.rules s.args_override_self (long_of word) word h)
          ≡ []
          → Good
          (if b
          then (h, trailing position)
          else long_or_other s.rules waiting word (long_of word) h).0.rows
      by_dashes true e = g
      by_dashes false e = by_long (long_of word) e

      by_name : (name : Option Text) → other_fault s name word h ≡ []
          → Good (subcommand_or_other s.rules name waiting position word h).0.rows
      by_name (Some name) e = g
      by_name None e = by_dashes (bytes_eq word (45 ∷ 45 ∷ [])) e

  -- the step that a word was
  steps : (w : Walk) (word : Text) (h : Held) (step : Step)
      → step_fault s w.position h step ≡ [] → Good h.rows
      → Good (after_step s.rules word w h step).held.rows
  steps w word h (next waiting) e g = g
  steps w word h (trailing position) e g = g
  steps w word h (subcommand name) e g = g
  steps w word h value e g = by_place (arg_by_index s.rules w.position) e
    where
      by_pending : (a : Rule) (b : Bool)
          → (if b then [] else settle_fault s.rules s.args_override_self h) ≡ []
          → Good (if b then h else settled s.rules h).rows
      by_pending a true e = g
      by_pending a false e = settles h e g

      by_place : (found : Option Rule)
          → option_map_or (λ a. positional_fault s.rules s.args_override_self a h) found
          (stray_fault s)
          ≡ []
          → Good (to_positional s.rules found word w h).held.rows
      by_place None e = g
      by_place (Some a) e = by_pending a (is_pending a h.pending && takes_several a) e

  -- one word
  turns : (w : Walk) (word : Text) → turn_fault s names w word ≡ [] → Good w.held.rows
      → Good (walked s.rules names w word).held.rows
  unfolding walked
  turns w word e g = by_stop w.stopped e
    where
      by_stop : (stop : Option (Text × List Text))
          → (let met = word_met s.rules names w.is_trailing w.waiting w.position word w.held in
          if is_some stop
          then []
          else or_else (word_fault s names w.is_trailing w.waiting word w.held)
          (step_fault s w.position met.0 met.1))
          ≡ []
          → Good (walked_from s.rules names stop w word).held.rows
      by_stop (Some p) e = g
      by_stop None e =
          let met = word_met s.rules names w.is_trailing w.waiting w.position word w.held in
          steps w word met.0 met.1
          (next_none (word_fault s names w.is_trailing w.waiting word w.held) _ e)
          (words w.is_trailing w.waiting w.position word w.held
          (first_none _ (step_fault s w.position met.0 met.1) e) g)

  -- all words
  pub walks : (ws : List Text) (w : Walk) → walk_fault s names w ws ≡ [] → Good w.held.rows
      → Good (fold (walked s.rules names) w ws).held.rows
  unfolding walk_fault
  walks [] w e g = g
  walks (word ∷ rest) w e g =
      walks rest (walked s.rules names w word) (next_none (turn_fault s names w word) _ e)
      (turns w word (first_none _ (walk_fault s names (walked s.rules names w word) rest) e) g)
