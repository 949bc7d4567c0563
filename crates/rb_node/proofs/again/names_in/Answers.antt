use Rattle.std.proofs.Common.{◌≡◌, ◌+◌, ◌≤◌, ℕ, List, [], ◌∷◌, ◌++◌, length, drop, refl, sym, ap, ◌∙◌, append_assoc, append-nil}
use Rattle.std.proofs.Common.{add-one, drop-cons, arith}
use Rattle.std.proofs.lemmas.List.{drop_all}
use Rattle.rb_shadow.specs.declared.op_name.OpName.{OpName}
use Rattle.rb_site.specs.declared.message.Message.{Message}
use Rattle.rb_site.specs.declared.message.Message.TheVariants.{Shadow as ShadowMessage, Token as TokenOnItsWay}
use Rattle.rb_node.specs.Kept.{names_sent}
use Rattle.rb_node.proofs.again.names_in.Goals as goal

-- the first message's, and those of the rest
first_name : (x : Message) (xs : List Message) → names_sent (x ∷ xs) ≡ names_sent (x ∷ []) ++ names_sent xs
first_name (ShadowMessage v) xs = refl
first_name (TokenOnItsWay m) xs = refl

-- a message more
name_pushed : (names new total : List OpName) (xs : List Message) (i : ℕ) (x : Message) → drop i xs ≡ x ∷ drop (i + 1) xs
    → new ≡ names ++ names_sent (x ∷ []) → names ++ names_sent (drop i xs) ≡ total → new ++ names_sent (drop (i + 1) xs) ≡ total
name_pushed names new total xs i x is e h =
    let rest = names_sent (drop (i + 1) xs) in
    ap (λ l. l ++ rest) e ∙ append_assoc names (names_sent (x ∷ [])) rest
    ∙ ap (λ l. names ++ l) (sym (first_name x (drop (i + 1) xs)) ∙ ap names_sent (sym is)) ∙ h

-- all are there
names_pushed : (names total : List OpName) (xs : List Message) (i : ℕ) → length xs ≤ i → names ++ names_sent (drop i xs) ≡ total
    → names ≡ total
names_pushed names total xs i h e = sym (append-nil names) ∙ ap (λ l. names ++ names_sent l) (sym (drop_all i xs h)) ∙ e

pub loop-message-preserved : goal.loop-message-preserved
loop-message-preserved c =
    let messages = c.args.messages.now in
    let i = c.loop-message.message-index in
    name_pushed c.loop-message.names.items c.push_name.new.names.items (names_sent messages) messages i _
    (rw add-one (drop-cons messages i _ (omega arith))) c.in_ok-push_name.ensures c.loop-message.invariant

pub returns : goal.returns
returns c =
    c.new.ensures ∙ names_pushed c.loop-message.names.items (names_sent c.args.messages.now) c.args.messages.now
    c.loop-message.message-index
    (omega arith) c.loop-message.invariant
