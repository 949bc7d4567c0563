-- Two events of a world are equal just if they are of one variant, and what they hold is equal.
use Rattle.std.proofs.Common.{◌≡◌, ◌∙◌, ℕ, ◌==◌, ap, sym}
use Rattle.std.proofs.lemmas.Bool.{eqb-true}
use Rattle.std.specs.Bool.{Decides}
use Rattle.std.specs.Cmp.{unsigned_Decides}
use Rattle.rb_site.specs.declared.event.Event.{Event}
use Rattle.rb_site.specs.declared.world_event.WorldEvent.{WorldEvent}
use Rattle.rb_site.specs.declared.world_event.WorldEvent.TheVariants.{At, Deliver}
use Rattle.rb_site.proofs.Variants.{apart, same_variant}
use Rattle.rb_site.proofs.world_event.WorldEvent.same.Goals as goal

at_event : (i : ℕ) (d e : Event) → At i d ≡ At i e → d ≡ e
at_event i d e h = cc

at_site : (i j : ℕ) (d e : Event) → At i d ≡ At j e → i ≡ j
at_site i j d e h = cc

deliver_number : (i m n : ℕ) → Deliver i m ≡ Deliver i n → m ≡ n
deliver_number i m n h = cc

deliver_site : (i j m n : ℕ) → Deliver i m ≡ Deliver j n → i ≡ j
deliver_site i j m n h = cc

-- at two sites they are apart
other_site : {A : Type 0} (x y : WorldEvent) (V : ℕ → A → WorldEvent) (i j : ℕ) (d e : A)
    → ((a b : A) → V i a ≡ V j b → i ≡ j) → x ≡ V i d → y ≡ V j e → (i ≡ j → ⊥) → Decides (i == j) (x ≡ y)
other_site x y V i j d e site first second other =
    (λ h. absurd (other (eqb-true i j h)), λ h. absurd (other (site d e (sym first ∙ h ∙ second))))

pub returns-then-site-at : goal.returns-then-site-at
returns-then-site-at c = same_variant (At c.in-At-other.at) (at_event c.in-At-other.at) c.args.self.now c.args.other.now c.in-At.event
    c.in-At-other.it c.same.result (c.in-At.is ∙ ap (λ i. At i c.in-At.event) c.if-site-at.true) c.in-At-other.is c.same.ensures

pub returns-else-site-at : goal.returns-else-site-at
returns-else-site-at c = other_site c.args.self.now c.args.other.now At c.in-At.site c.in-At-other.at c.in-At.event c.in-At-other.it
    (at_site c.in-At.site c.in-At-other.at) c.in-At.is c.in-At-other.is c.if-site-at.false

pub returns-in_default : goal.returns-in_default
returns-in_default c = apart c.args.self.now c.args.other.now (λ e. c.in_default.not-At _ _ (sym e ∙ c.in-At.is))

pub returns-then-site-at-2 : goal.returns-then-site-at-2
returns-then-site-at-2 c = same_variant (Deliver c.in-Deliver-other.at) (deliver_number c.in-Deliver-other.at) c.args.self.now
    c.args.other.now c.in-Deliver.number c.in-Deliver-other.it _ (c.in-Deliver.is ∙ ap (λ i. Deliver i c.in-Deliver.number)
    c.if-site-at-2.true) c.in-Deliver-other.is (unsigned_Decides c.in-Deliver.number c.in-Deliver-other.it)

pub returns-else-site-at-2 : goal.returns-else-site-at-2
returns-else-site-at-2 c = other_site c.args.self.now c.args.other.now Deliver c.in-Deliver.site c.in-Deliver-other.at
    c.in-Deliver.number c.in-Deliver-other.it (deliver_site c.in-Deliver.site c.in-Deliver-other.at) c.in-Deliver.is c.in-Deliver-other.is
    c.if-site-at-2.false
