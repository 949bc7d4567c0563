-- Lines of commands as programs spell them: an object of the command's member and its site's, which is first or last.
use Rattle.std.specs.Prelude.{◌≡◌, ℕ, List, ◌++◌, Option, None, Some, codes, decimal}

-- what follows an object's first quote: this text from a key on, with a site's member before it if there is a site
abbrev pub behind_site : Option ℕ → List ℕ → List ℕ
behind_site None text = text
behind_site (Some site) text = codes "site\":" ++ (decimal site ++ (codes ",\"" ++ text))

-- what follows a command's member on its line: the site's member, or the end alone if a site came first
abbrev pub EndsLine : Option ℕ → ℕ → List ℕ → Type 0
EndsLine None site rest = rest ≡ codes ",\"site\":" ++ (decimal site ++ codes "}")
EndsLine (Some first) site rest = (site ≡ first) × (rest ≡ codes "}")
