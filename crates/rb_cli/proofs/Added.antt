-- A command with options and with commands added in turn.
use Rattle.std.proofs.Common.{◌≡◌, ◌∙◌, ℕ, true, false, not, List, [], ◌∷◌, is_some, map, sym, ap}
use Rattle.std.specs.Prelude.{fold}
use Rattle.std.specs.List.{list_all}
use Rattle.std.proofs.lemmas.Bool.{not-true}
use Rattle.clap.specs.Simple.{App, app_of, with_rule, with_subcommand}
use Rattle.clap.specs.Walk.{Rule, is_empty, is_simple_arg, rule_of}
use Rattle.clap.specs.Words.{AddsArg, AddsInTurn, AddsSubcommand}
use Rattle.clap.specs.declared.builder.arg.Arg.{Arg}
use Rattle.clap.specs.declared.builder.command.Command.{Command}
use Rattle.clap.proofs.WalkLemmas.{both}
use Rattle.rb_cli.specs.Words.{within}

-- a simple option is none of the commands below
own_option : (a : Arg) → is_simple_arg a ≡ true → a.global ≡ false
own_option a is =
    let all = both (is_empty a.overrides.items) _ is in
    let no_ifs = both (is_empty a.default_vals_ifs.items) _ all.1 in
    let no_groups = both (is_empty a.groups.items) _ no_ifs.1 in
    let no_delimiter = both (not (is_some a.val_delim)) _ no_groups.1 in
    let no_terminator = both (not (is_some a.terminator)) _ no_delimiter.1 in
    let no_hyphens = both (not a.allow_hyphen_values) _ no_terminator.1 in
    let no_negatives = both (not a.allow_negative_numbers) _ no_hyphens.1 in
    let no_equals = both (not a.require_equals) _ no_negatives.1 in
    let not_last = both (not a.last) (not a.global) no_equals.1 in
    not-true a.global not_last.1

-- a command to which simple options were added has their rules
pub with_options : (old new : Command) (options : List Arg) → list_all (λ rule. rule.is_simple) (map rule_of options) ≡ true
    → AddsInTurn AddsArg old options new → app_of new ≡ fold with_rule (app_of old) (map rule_of options)
with_options old new [] simple adds = ap app_of (sym adds)
with_options old new (a ∷ options) simple adds =
    let its = both _ _ simple in
    with_options adds.0 new options its.1 adds.2
    ∙ ap (λ app. fold with_rule app (map rule_of options)) (adds.1.shape (own_option a its.0))

-- and one to which plain commands were added has these below it
pub with_commands : (old new : Command) (parts : List Command) → list_all (λ part. part.top.is_plain) (map app_of parts) ≡ true
    → AddsInTurn AddsSubcommand old parts new
    → app_of new ≡ fold (λ app part. with_subcommand app part.top) (app_of old) (map app_of parts)
with_commands old new [] plain adds = ap app_of (sym adds)
with_commands old new (part ∷ parts) plain adds =
    let its = both _ _ plain in
    let no_groups = both _ _ its.0 in
    let no_external = both _ _ no_groups.1 in
    let no_globals = both _ _ no_external.1 in
    with_commands adds.0 new parts its.1 adds.2
    ∙ ap (λ app. fold (λ (app : App) (part : App). with_subcommand app part.top) app (map app_of parts))
    (adds.1.shape (not-true _ no_globals.0))

-- a rule with numbers in a range
abbrev pub ranged : ℕ → ℕ → Rule → Rule
ranged least most rule = record rule { parser = within least most }
