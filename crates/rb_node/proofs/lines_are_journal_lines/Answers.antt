use Rattle.std.proofs.Common.{◌≡◌, ◌≢◌, ℕ, true, false, not, List, [], ◌∷◌, refl, ap, arith}
use Rattle.std.specs.Prelude.{◌==◌, All}
use Rattle.std.specs.List.{list_all}
use Rattle.std.proofs.lemmas.Bool.{and_parts, eq-eqb}
use Rattle.std.proofs.lemmas.List.Elements.{All-cons}
use Rattle.serde_json.specs.Written.{compact_text}
use Rattle.rb_history.specs.ConfigLines.{config_json}
use Rattle.rb_history.specs.Entries.{asked_entry_json}
use Rattle.rb_history.specs.OneLine.{ConfigsAreLines, EntriesAreLines}
use Rattle.rb_node.specs.Laws.{ConfigsAreJournalLines, EntriesAreJournalLines}
use Rattle.rb_node.proofs.lines_are_journal_lines.Goals as goal

-- no byte that passes the test is a line feed
not_feed : (b : ℕ) → not (b == 10) ≡ true → b ≢ 10
not_feed b h = λ e. let fails : not (b == 10) ≡ false = ap not (eq-eqb b 10 e) in cc

none_is : (l : List ℕ) → list_all (λ b. not (b == 10)) l ≡ true → All (λ b. b ≢ 10) l
none_is [] h = λ k d below. absurd (omega arith)
none_is (b ∷ l) h = let p = and_parts (not (b == 10)) (list_all (λ c. not (c == 10)) l) h in All-cons (λ c. c ≢ 10) b l (not_feed b p.0)
    (none_is l p.1)

-- if what is written for each configuration is one line, it is a journal's line
configs_lines : ConfigsAreLines → ConfigsAreJournalLines
configs_lines h s is = record { begins = refl; one = none_is (compact_text (config_json s)) (h s is).no_feed }

-- if what is written for each entry is one line, it is a journal's line
entries_lines : EntriesAreLines → EntriesAreJournalLines
entries_lines h s is me x id = record { begins = refl; one = none_is (compact_text (asked_entry_json s me x)) (h s is me x id).no_feed }

pub returns-clause-configs : goal.returns-clause-configs
returns-clause-configs c = configs_lines c.lines_are_single.ensures.configs

pub returns-clause-entries : goal.returns-clause-entries
returns-clause-entries c = entries_lines c.lines_are_single.ensures.entries
