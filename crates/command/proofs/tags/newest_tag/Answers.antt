use Rattle.std.proofs.Common.{◌≡◌, ℕ, ◌+◌, ◌-◌, ◌≤◌, List, [], ◌∷◌, ◌++◌, take, Option, Some, None}
use Rattle.std.proofs.Common.{refl, sym, ap, ◌∙◌, arith, if◌then◌else◌}
use Rattle.std.specs.Prelude.{slice_get}
use Rattle.std.proofs.lemmas.List.{take_more}
use Rattle.std.proofs.lemmas.Option.{get_or_from_slice_get, slice_get_within}
use Rattle.elements.specs.declared.tag.Cp56.{Cp56}
use Rattle.command.specs.Selection.{same_target}
use Rattle.command.specs.Tags.{newest_tag}
use Rattle.command.specs.declared.content.Target.{Target}
use Rattle.command.specs.declared.tags.Sending.{Sending}
use Rattle.command.proofs.tags.newest_tag.Goals as goal

-- the last sending decides, if it has the target
newest_last : (t : Target) (found : Option Cp56) (zs : List Sending) (z : Sending)
    → newest_tag t found (zs ++ z ∷ []) ≡ (if same_target z.target t then z.tag
    else newest_tag t found zs)
newest_last t found [] z = refl
newest_last t found (x ∷ zs) z = newest_last t (if same_target x.target t then x.tag else found) zs
    z

newest_at : (t : Target) (zs : List Sending) (i : ℕ) (z : Sending) → slice_get zs i ≡ Some z
    → newest_tag t None (take (i + 1) zs)
    ≡ (if same_target z.target t then z.tag else newest_tag t None (take i zs))
newest_at t zs i z there =
    ap (newest_tag t None) (take_more zs i z (slice_get_within zs i z there)
    ∙ ap (λ (x : Sending). take i zs ++ x ∷ []) (get_or_from_slice_get zs i z z there))
    ∙ newest_last t None (take i zs) z

pub returns : goal.returns
returns c =
    let none : c.sendings.place ≡ 0 = omega arith in
    sym (ap (λ n. newest_tag c.args.target None (take n c.args.sendings.now.items)) none)
    ∙ c.sendings.invariant.others

-- what the sending at the place adds
heeded : (t : Target) (zs : List Sending) (place : ℕ) (z : Sending) → 1 ≤ place
    → slice_get zs (place - 1) ≡ Some z
    → newest_tag t None (take place zs) ≡ newest_tag t None zs
    → (if same_target z.target t then z.tag else newest_tag t None (take (place - 1) zs))
    ≡ newest_tag t None zs
heeded t zs place z some there others =
    let one : place - 1 + 1 ≡ place = omega arith in
    sym (newest_at t zs (place - 1) z there) ∙ ap (λ n. newest_tag t None (take n zs)) one ∙ others

pub returns-then-same_target : goal.returns-then-same_target
returns-then-same_target c =
    let z = c.in-Some.sending.now in
    let zs = c.args.sendings.now.items in
    let place = c.sendings.place in
    let t = c.args.target in
    ap (λ b. if b then z.tag else newest_tag t None (take (place - 1) zs))
    (sym (sym c.same_target.ensures ∙ c.if-same_target.true))
    ∙ heeded t zs place z (omega arith) (sym c.in-Some.ensures) c.sendings.invariant.others

pub sendings-preserved : goal.sendings-preserved
sendings-preserved c =
    let z = c.in-Some.sending.now in
    let zs = c.args.sendings.now.items in
    let place = c.sendings.place in
    let t = c.args.target in
    record {
      others = ap (λ b. if b then z.tag else newest_tag t None (take (place - 1) zs))
          (sym (sym c.same_target.ensures ∙ c.if-same_target.false))
          ∙ heeded t zs place z (omega arith) (sym c.in-Some.ensures) c.sendings.invariant.others;
      within = omega arith;
    }
