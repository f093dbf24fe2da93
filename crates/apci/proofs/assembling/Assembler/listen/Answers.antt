use Rattle.std.proofs.Common.{◌≡◌, ◌++◌, Some, None, [], ◌∷◌, sym, ap, subst, refl, List, ℕ, take}
use Rattle.std.proofs.Common.{arith, ◌∙◌}
use Rattle.std.proofs.lemmas.List.{append-nil, take_all}
use Rattle.apci.specs.declared.apdu.Apdu.TheVariants.{I}
use Rattle.apci.specs.Assembly.{Assembly}
use Rattle.apci.proofs.EachOctet.{state_more, i_received, never_received, decided_here}
use Rattle.apci.proofs.assembling.Assembler.listen.Goals as goal

pub loop-i-init : goal.loop-i-init
loop-i-init c =
    let h = subst (λ (v : Assembly). (x : List ℕ) × (v.so_far ≡ Some x)) (sym c.self.view_is)
    c.requires.listens in
    record {
      state = c.self.invariant;
      taken = subst (λ (v : Assembly). v.whole ≡ None) (sym c.self.view_is) c.requires.taken;
      joined = (h.0, h.1, h.1 ∙ ap Some (sym (append-nil h.0)));
      looked = omega arith;
    }

pub returns-in-I-clause-listening : goal.returns-in-I-clause-listening
returns-in-I-clause-listening c =
    let before = c.loop-i.invariant.joined.0 in
    let h = i_received c.loop-i.self-inside.state c.loop-i.self-inside.asdu.items before
    c.args.piece.now c.loop-i.i
    c.look-octet.result c.stepped.result c.in-I.ns c.in-I.nr
    c.loop-i.invariant.state c.loop-i.invariant.joined.2 c.loop-i-test.true
    c.look-octet.ensures.value
    (rw (← c.deref.ensures.0) c.stepped.ensures) c.in-I.is in
    rw (← c.self.view_is, c.loop-i.invariant.joined.1) (
      I c.in-I.ns c.in-I.nr (record {
        items = c.loop-i.self-inside.asdu.items ++ c.look-octet.result
            ∷ [];
      }),
      h.0,
      refl,
      ap (λ (xs : List ℕ). Some (I c.in-I.ns c.in-I.nr (record { items = xs })))
          c.push-in-I.ensures.items,
    )

pub returns-in-Never-clause-listening : goal.returns-in-Never-clause-listening
returns-in-Never-clause-listening c =
    let before = c.loop-i.invariant.joined.0 in
    let h = never_received c.loop-i.self-inside.state c.loop-i.self-inside.asdu.items before
    c.args.piece.now c.loop-i.i
    c.look-octet.result c.stepped.result c.in-Never.place c.in-Never.why
    c.loop-i.invariant.joined.2 c.loop-i-test.true c.look-octet.ensures.value
    (rw (← c.deref.ensures.0) c.stepped.ensures) c.in-Never.is in
    rw (← c.self.view_is, c.loop-i.invariant.joined.1) (h, refl, refl, refl)

pub returns-in-Never-clause-looked : goal.returns-in-Never-clause-looked
returns-in-Never-clause-looked c =
    let before = c.loop-i.invariant.joined.0 in
    let d = decided_here c.loop-i.self-inside.state c.loop-i.self-inside.asdu.items before
    c.args.piece.now c.loop-i.i
    c.look-octet.result c.stepped.result c.in-Never.place c.in-Never.why
    c.loop-i.invariant.state c.loop-i.invariant.joined.2 c.loop-i-test.true
    c.look-octet.ensures.value
    (rw (← c.deref.ensures.0) c.stepped.ensures) c.in-Never.is in
    rw (← c.self.view_is, c.loop-i.invariant.joined.1) (
      d.0,
      d.1,
      omega (arith, d.2, c.loop-i.invariant.looked, c.look-octet.ensures.counted),
    )

pub returns-clause-listening : goal.returns-clause-listening
returns-clause-listening c =
    let before = c.loop-i.invariant.joined.0 in
    let all : take c.loop-i.i c.args.piece.now ≡ c.args.piece.now =
    take_all c.loop-i.i c.args.piece.now c.loop-i-test.false in
    let joined = c.loop-i.invariant.joined.2 ∙ ap (λ (l : List ℕ). Some (before ++ l)) all in
    rw (← c.self.view_is, c.loop-i.invariant.joined.1) (
      state_more c.loop-i.self-inside.state c.loop-i.self-inside.asdu.items (before
          ++ c.args.piece.now) c.loop-i.invariant.state joined,
      refl,
      joined,
      c.loop-i.invariant.taken,
    )
