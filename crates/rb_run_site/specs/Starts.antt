-- The site that a run starts with.
use Rattle.std.specs.Prelude.{◌≡◌, ◌⊎◌, ℕ, ◌+◌, ◌<◌, List, [], ◌∷◌, ◌++◌, length, Option, Some, IfSome}
use Rattle.rb_site.specs.Seen.{IsReplayed}
use Rattle.rb_history.specs.Configurations.{config_on}
use Rattle.rb_lines.specs.Lines.{lines_of}
use Rattle.rb_node.specs.Asked.{AreIdsOnce, SeenAsked, first_asked, without_ids}
use Rattle.rb_node.specs.Replays.{IsReadWhole}
use Rattle.rb_run_site.specs.FirstLines.{not_blank}
use Rattle.rb_run_site.specs.Journals.{journal_of}

-- the site is of the configuration on this line, of this number, and of the bank of this name
pub record IsOf (config : List ℕ) (me : ℕ) (bank : List ℕ) (x : SeenAsked) : Type 0 where
  pub configured : config_on config ≡ Some x.settings
  pub me_is : x.me ≡ me
  pub bank_is : x.bank ≡ bank
  pub within : me < x.settings.sites

-- a journal without lines is of a site before any event; else the lines are the site's journal
abbrev pub IsJournalOf : List (List ℕ) → SeenAsked → Type 0
IsJournalOf lines x = ((lines ≡ []) × (x ≡ first_asked x.settings x.me x.bank)) ⊎ (lines ≡ journal_of x)

-- the input's first line that isn't blank is the configuration's, and these lines are after it, of which the first has
-- this number
pub record IsBehind (config : List ℕ) (number : ℕ) (later : List (List ℕ)) (input : List ℕ) : Type 0 where
  pub blanks : List (List ℕ)
  pub are_blank : not_blank blanks ≡ []
  pub number_is : number ≡ 2 + length blanks
  pub whole : lines_of input ≡ blanks ++ config ∷ later

-- what waits and what is still to be read is after the configuration's line
pub record WaitsBehind (config : List ℕ) (number : ℕ) (pending : List ℕ) (left : Option (List ℕ)) (input : List ℕ) : Type 0 where
  pub rest : List ℕ
  pub left_is : left ≡ Some rest
  pub behind : IsBehind config number (lines_of (pending ++ rest)) input

-- a run starts with this site: the one that the input's first line and the journal's lines say; its history replays,
-- the line of each of its entries is read as that entry, and no two entries have one id
pub record Starts (me : ℕ) (bank : List ℕ) (input : Option (List ℕ)) (lines : List (List ℕ)) (x : SeenAsked) : Type 0 where
  pub config : List ℕ
  pub is_of : IsOf config me bank x
  pub first : IfSome input (λ all. (number : ℕ) × (later : List (List ℕ)) × IsBehind config number later all)
  pub journal : IsJournalOf lines x
  pub replayed : IsReplayed (without_ids x)
  pub read : IsReadWhole x
  pub once : AreIdsOnce x.asked
