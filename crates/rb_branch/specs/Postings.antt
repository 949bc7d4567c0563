-- What goes out by the links of a branch.
use Rattle.std.specs.Prelude.{◌≡◌, ℕ, zero, suc, ◌≤◌, Bool, not, ◌==◌, if◌then◌else◌, List, [], ◌∷◌, ◌++◌, length, map, count_by}
use Rattle.std.specs.List.{flat_map}
use Rattle.rb_branch.specs.declared.limits.TheConstants.{MOST_TRIES}
use Rattle.rb_site.specs.declared.message.Message.{Message}
use Rattle.rb_site.specs.declared.message.Message.TheVariants.{Shadow as ShadowMessage, Token as TokenOnItsWay}

-- a message was given to the link of a site, which took it or didn't
pub record Tried : Type 0 where
  pub to : ℕ
  pub message : Message
  pub took : Bool

-- how many weren't taken
abbrev pub refusals : List Tried → ℕ
refusals ts = count_by (λ t. not t.took) ts

-- the numbers below one, without another
abbrev pub others : ℕ → ℕ → List ℕ
others home zero = []
others home (suc n) = if n == home then others home n else others home n ++ n ∷ []

-- the sites that a message is for, of this number of sites: a token for the one that it names, and what a home made for
-- each other one
abbrev pub addressees : ℕ → ℕ → Message → List ℕ
addressees home sites (ShadowMessage v) = others home sites
addressees home sites (TokenOnItsWay m) = m.to ∷ []

-- the message for each of these sites
abbrev pub for_each : Message → List ℕ → List (ℕ × Message)
for_each m sites = map (λ i. (i, m)) sites

-- to whom which message was given
abbrev pub given : Tried → ℕ × Message
given t = (t.to, t.message)

-- each message was given once to the link of each site that it is for, and to no other
abbrev pub ArePosted : ℕ → ℕ → List Message → List Tried → Type 0
ArePosted home sites posted ts = map given ts ≡ flat_map (λ m. for_each m (addressees home sites m)) posted

-- the links' refusals are counted, and there are no more tries than a call has
pub record IsPosting (ts : List Tried) (unsent : ℕ) : Type 0 where
  pub counted : unsent ≡ refusals ts
  pub few : length ts ≤ MOST_TRIES
