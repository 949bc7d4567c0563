-- Closed books are of a world at rest.
use Rattle.rb_runs.proofs.Words.{◌≡◌, ◌≤◌, ℕ, List, Some, sym, ap, ◌∙◌, subst, arith, slice_get, IsConfigured, Settings, Shadow, Agree}
use Rattle.rb_runs.proofs.Words.{Among, AreSame, clock_of, names, names_of_clock, Entry, AreOneWorlds, World, made_in, world_of_run}
use Rattle.rb_runs.proofs.Words.{Always, Headline, OtherLaws, MayBeClosed, applied_from, ClosedBalancesAgree}
use Rattle.rb_runs.proofs.OneWorlds.{IsSiteWith, list_of, run_of, site_with}
use Rattle.rb_shadow.proofs.Public.Members

-- a bank has a site
some_site : (s : Settings) → IsConfigured s → 1 ≤ s.sites
some_site s c = let some : 2 ≤ s.sites = c.some_sites in omega arith

-- the laws hold of all runs
abbrev pub AllLaws : Type 0
AllLaws = Always Headline × Always OtherLaws

module _ (laws : AllLaws) (s : Settings) (hs : List (List Entry)) (c : IsConfigured s) (one : AreOneWorlds s hs) where
  -- the histories' world
  abbrev world : World
  world = world_of_run s one.events

  -- what its sites have applied
  abbrev uss : List (List Shadow)
  uss = applied_from s 0 hs

  -- the headline holds of it, and so do the other laws
  headline : Headline s world
  headline = laws.0 s one.events (some_site s c) c.few_sites one.own

  pub others_of : OtherLaws s world
  others_of = laws.1 s one.events (some_site s c) c.few_sites one.own

  -- what a site has applied has the names of its clock
  clock_names : (i : ℕ) (us : List Shadow) → slice_get uss i ≡ Some us → AreSame (names us) (names_of_clock (clock_of us))
  clock_names i us at =
      let h : IsSiteWith world i us = site_with s hs one i us at in
      subst (λ vs. AreSame (names vs) (names_of_clock (clock_of vs))) h.ops (others_of.clocks i h.site h.at)

  -- what a site has applied was made
  pub was_made : (i : ℕ) (us : List Shadow) → slice_get uss i ≡ Some us → (v : Shadow) → Among v us → Among v (made_in world)
  was_made i us at v k =
      let h : IsSiteWith world i us = site_with s hs one i us at in
      headline.red_blue.made i h.site h.at v (subst (Among v) (sym h.ops) k)

  -- if the books may be closed, any two sites have applied the same names
  pub same_names : MayBeClosed uss → (i j : ℕ) (us vs : List Shadow) → slice_get uss i ≡ Some us → slice_get uss j ≡ Some vs
      → AreSame (names us) (names vs)
  same_names closed i j us vs at there x =
      clock_names i us at x ∙ ap (λ k. names_of_clock k x) (closed i j us vs at there) ∙ sym (clock_names j vs there x)

  -- any two sites agree
  pub sites_agree : MayBeClosed uss → (i j : ℕ) (us vs : List Shadow) → slice_get uss i ≡ Some us → slice_get uss j ≡ Some vs
      → Agree s us vs
  sites_agree closed i j us vs at there =
      let h : IsSiteWith world i us = site_with s hs one i us at in
      let k : IsSiteWith world j vs = site_with s hs one j vs there in
      let same : AreSame (names h.site.ops) (names k.site.ops) =
      λ x. ap (λ ws. names ws x) h.ops ∙ same_names closed i j us vs at there x ∙ ap (λ ws. names ws x) (sym k.ops) in
      subst (λ ws. Agree s ws vs) h.ops (subst (Agree s h.site.ops) k.ops (headline.agreement i h.site h.at j k.site k.at same))

  -- each site has applied what was made
  every : MayBeClosed uss → (i : ℕ) (us : List Shadow) → slice_get uss i ≡ Some us → (v : Shadow) → Among v (made_in world) → Among v us
  every closed i us at v made =
      let (j, t, there, k) = (run_of s one.events).made v made in
      let same : names us v.name ≡ names t.ops v.name = same_names closed i j us t.ops at (list_of s hs one j t there) v.name in
      let (u, among, named) = Members.find_named us v.name (same ∙ Members.named t.ops v k) in
      let is : u ≡ v = Members.same_named (made_in world) u v headline.red_blue.lawful.unique (was_made i us at u among) made named in
      subst (λ w. Among w us) is among

-- closed books are of a world at rest
pub closed_agree : AllLaws → ClosedBalancesAgree
closed_agree laws x c one closed = record {
  agree = sites_agree laws x.settings x.histories c one closed;
  all = every laws x.settings x.histories c one closed;
  no_other = was_made laws x.settings x.histories c one;
}
