-- The parts of the line of a shadow that comes: before its counts of blue operations, and after them.
use Rattle.std.specs.Prelude.{◌≡◌, ℕ, ◌<◌, ◌^◌, List, ◌++◌, true, codes, decimal}
use Rattle.serde_json.specs.Written.{members_text}
use Rattle.rb_money.specs.Settings.{Settings}
use Rattle.rb_money.specs.declared.place.Place.{Place}
use Rattle.rb_shadow.specs.NameText.{IsName, name_text}
use Rattle.rb_shadow.specs.Labels.{label_of}
use Rattle.rb_history.specs.KindWords.{word_of}
use Rattle.rb_history.specs.declared.fast.shadow.Back.{Back}
use Rattle.rb_history.specs.Beginnings.{account_behind_quote, behind_quote}
use Rattle.rb_history.specs.Entries.{last_members}
use Rattle.rb_history.specs.Fits.{IsKind}

-- the event of a shadow that comes up to the bracket before its counts, by its account and its amount
abbrev pub shadow_front : Settings → Place → ℕ → List ℕ
shadow_front s account amount = codes
    "{\"shadow\":{\"account\":\"" ++ (account_behind_quote s account ++ (codes
    ",\"amount\":" ++ (decimal amount ++ codes ",\"deps\":[")))

-- the event of a shadow that comes after its counts
abbrev pub shadow_back : Settings → Back → List ℕ
shadow_back s b = codes
    "," ++ (decimal b.red ++ (codes
    "],\"home\":" ++ (decimal b.home ++ (codes
    ",\"kind\":\"" ++ (behind_quote (word_of (label_of b.kind)) ++ (codes
    ",\"name\":\"" ++ (behind_quote (name_text b.name)
    ++ (members_text true (last_members s b.kind) ++ codes "}"))))))))

-- what fits there, and the rest
pub record BeginsWithBack (s : Settings) (b : Back) (text rest : List ℕ) : Type 0 where
  pub red : b.red < 2 ^ 32
  pub home : b.home < 2 ^ 8
  pub name : IsName b.name
  pub kind : IsKind s b.kind
  pub written : text ≡ shadow_back s b ++ rest
