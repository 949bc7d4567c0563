-- The command line has its commands.
use Rattle.std.proofs.Common.{◌≡◌, ◌∙◌, List, [], ◌∷◌, ap, codes, map, refl, subst, sym, true}
use Rattle.std.specs.Prelude.{fold}
use Rattle.std.specs.List.{list_all}
use Rattle.std.proofs.lemmas.Result.{IfOk-weaker}
use Rattle.clap.specs.Lexer.{usize_max}
use Rattle.clap.specs.Words.{App, app_of, with_subcommand}
use Rattle.rb_cli.specs.Words.{close_line, files_line, site_line, threads_line}
use Rattle.rb_cli.proofs.Added.{with_commands}
use Rattle.rb_cli.proofs.command_line.command_line.Goals as goal

pub returns : goal.returns
returns c =
    let words = c.in_ok-site.ensures in
    let apps : List App = files_line (codes "script") 1 ∷ files_line (codes "histories") 1 ∷ files_line (codes "audit") usize_max
    ∷ files_line (codes "migrate") 1 ∷ threads_line ∷ site_line words.0 ∷ close_line ∷ [] in
    let are : map app_of c.in_ok-parts.parts.items ≡ apps = ap (map app_of) c.in_ok-parts.ensures.items
    ∙ (λ i. c.in_ok-task.ensures i ∷ c.in_ok-task-2.ensures i ∷ c.in_ok-task-3.ensures i ∷ c.in_ok-task-4.ensures i
    ∷ c.in_ok-threads.ensures i ∷ words.2 i ∷ c.in_ok-close.ensures i ∷ []) in
    IfOk-weaker c.subcommands.result _ _ (λ line adds. (
      words.0,
      words.1,
      with_commands c.top.result line _ (subst (λ all. list_all (λ part. part.top.is_plain) all ≡ true) (sym are) refl) adds
          ∙ ap (λ app. fold (λ (app : App) (part : App). with_subcommand app part.top) app (map app_of c.in_ok-parts.parts.items))
          c.top.ensures
          ∙ ap (fold (λ (app : App) (part : App). with_subcommand app part.top) _) are,
    )) c.subcommands.ensures
