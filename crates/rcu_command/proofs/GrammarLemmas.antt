-- Commands that get options and subcommands.
use Rattle.std.proofs.Common.{◌≡◌, ◌∙◌, ◌||◌, Bool, false, IfOk, Result, Ok, Err, ap}
use Rattle.clap.specs.Words.{AddsArg, AddsSubcommand, App, Rule, app_of, rule_of, shape_of}
use Rattle.clap.specs.Words.{with_rule, with_subcommand}
use Rattle.clap.specs.declared.builder.arg.Arg.{Arg}
use Rattle.clap.specs.declared.builder.command.Command.{Command}
use Rattle.clap.specs.declared.builder.command.Command.TheViews.{out-Command as fields_of}

-- a command of this simple one, which has no global option
pub record IsLocal (command : Command) (simple : App) : Type 0 where
  pub app : app_of command ≡ simple
  pub local : (fields_of command).has_globals ≡ false

-- with an option more
pub with_option : (old : Command) (a : Arg) (new : Command) (app : App) (rule : Rule)
    → AddsArg old a new → rule_of a ≡ rule → a.global ≡ false → IsLocal old app
    → IsLocal new (with_rule app rule)
with_option old a new app rule adds ruled local is = record {
  app = adds.shape local
      ∙ ap (λ (x : App). with_rule x (rule_of a)) is.app
      ∙ ap (λ (r : Rule). with_rule app r) ruled;
  local = adds.globals ∙ ap (λ (b : Bool). b || a.global) is.local ∙ local;
}

-- with the last one, if that is added
pub with_last_option : {E : Type 0} (r : Result Command E) (old : Command) (a : Arg) (app : App)
    (rule : Rule)
    → IfOk r (λ new. AddsArg old a new)
    → rule_of a ≡ rule
    → a.global ≡ false
    → IsLocal old app
    → IfOk r (λ new. IsLocal new (with_rule app rule))
with_last_option (Ok new) old a app rule adds ruled local is =
    with_option old a new app rule adds ruled local is
with_last_option (Err e) old a app rule adds ruled local is = tt

-- the command after that
pub app_kept : {E : Type 0} (r : Result Command E) (app : App) → IfOk r (λ new. IsLocal new app)
    → IfOk r (λ new. app_of new ≡ app)
app_kept (Ok new) app is = is.app
app_kept (Err e) app is = tt

pub local_kept : {E : Type 0} (r : Result Command E) (app : App) → IfOk r (λ new. IsLocal new app)
    → IfOk r (λ new. (fields_of new).has_globals ≡ false)
local_kept (Ok new) app is = is.local
local_kept (Err e) app is = tt

-- with a subcommand more that has no global option
pub with_below : (old sub new : Command) (app below : App)
    → AddsSubcommand old sub new
    → app_of old ≡ app
    → app_of sub ≡ below
    → (fields_of sub).has_globals ≡ false
    → app_of new ≡ with_subcommand app below.top
with_below old sub new app below adds is sub_is local =
    adds.shape local
    ∙ ap (λ (x : App). with_subcommand x (shape_of sub)) is
    ∙ ap (λ (x : App). with_subcommand app x.top) sub_is

-- with the last one, if that is added
pub with_last_below : {E : Type 0} (r : Result Command E) (old sub : Command) (app below : App)
    → IfOk r (λ new. AddsSubcommand old sub new)
    → app_of old ≡ app
    → app_of sub ≡ below
    → (fields_of sub).has_globals ≡ false
    → IfOk r (λ new. app_of new ≡ with_subcommand app below.top)
with_last_below (Ok new) old sub app below adds is sub_is local =
    with_below old sub new app below adds is sub_is local
with_last_below (Err e) old sub app below adds is sub_is local = tt
