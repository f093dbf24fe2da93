-- Rounds of a control centre, one step after another.
use Rattle.std.proofs.Common.{◌≡◌, ℕ, ◌+◌, List, Option, Some, None, ap, refl, sym, subst}
use Rattle.apci.specs.Assembly.{Assembly}
use Rattle.apci.specs.declared.apdu.Apdu.{Apdu}
use Rattle.apci.specs.declared.apdu.Why.{Why}
use Rattle.apci.specs.declared.assembling.Received.{Received}
use Rattle.apci.specs.declared.assembling.Received.TheVariants.{Whole, More, Never, Deaf}
use Rattle.session.specs.declared.kinds.Close.TheVariants.{Grammar}
use Rattle.centre.specs.Centres.{cut_off, next_of}
use Rattle.centre.specs.Desks.{AreTaken, Desk, IsArrived, IsFed, IsFrontTaken, IsPut, IsTakenIn}
use Rattle.centre.specs.Desks.{One_more, Scene, Sends, scene, with_assembly}
use Rattle.centre.specs.declared.centre.Centre.{Centre}
use Rattle.centre.specs.declared.errand.Loss.TheVariants.{Closed}

-- one APDU more goes out
pub one_more : (now n : ℕ) (first : Scene) (seen view : Desk) (text : List ℕ) (a : Apdu)
    (c : Centre)
    (new : Scene) → Sends now first n (scene seen text) → view ≡ seen
    → (Some a, c) ≡ next_of now view.centre
    → IsPut now a (scene (record view { centre = c }) text) new → Sends now first (n + 1) new
one_more now n first seen view text a c new sends is due put =
    One_more n (scene view text) a new
    (subst (λ (d : Desk). Sends now first n (scene d text)) (sym is) sends)
    (ap (λ (p : Option Apdu × Centre). p.0) (sym due))
    (subst (λ (b : Centre). IsPut now a (scene (record view { centre = b }) text) new)
    (ap (λ (p : Option Apdu × Centre). p.1) due) put)

-- An APDU that is whole is taken in.
pub whole_taken : (now n : ℕ) (octets text : List ℕ) (seen view : Desk) (arrived : Received)
    (fed rest : Assembly) (a : Apdu) (new : Scene) → view ≡ seen
    → IsFed view.assembly octets n arrived fed → arrived ≡ Whole → Some a ≡ fed.whole
    → rest ≡ record fed { whole = None }
    → IsTakenIn now a (scene (record view { assembly = rest }) text) new
    → IsFrontTaken now octets n (scene seen text) new
whole_taken now n octets text seen view arrived fed rest a new is feeds kind whole left h =
    subst (λ (d : Desk). IsFrontTaken now octets n (scene d text) new) is (record {
      arrived = arrived;
      fed = fed;
      feeds = feeds;
      takes = subst (λ (r : Received). IsArrived now r fed (scene view text) new) (sym kind)
          (subst (λ (w : Option Apdu). AreTaken now w
          (with_assembly (record fed { whole = None }) (scene view text)) new) whole
          (subst (λ (t : Assembly). IsTakenIn now a (with_assembly t (scene view text)) new)
          left h));
    })

-- The beginning of an APDU is kept.
pub more_taken : (now n : ℕ) (octets text : List ℕ) (seen view : Desk) (arrived : Received)
    (fed : Assembly) → view ≡ seen → IsFed view.assembly octets n arrived fed → arrived ≡ More
    → IsFrontTaken now octets n (scene seen text) (scene (record view { assembly = fed }) text)
more_taken now n octets text seen view arrived fed is feeds kind =
    subst (λ (d : Desk). IsFrontTaken now octets n (scene d text)
    (scene (record view { assembly = fed }) text)) is (record {
      arrived = arrived;
      fed = fed;
      feeds = feeds;
      takes = subst (λ (r : Received). IsArrived now r fed (scene view text)
          (scene (record view { assembly = fed }) text)) (sym kind) refl;
    })

-- Octets that begin no APDU end the connection.
pub never_taken : (now n : ℕ) (octets text : List ℕ) (seen view : Desk) (arrived : Received)
    (fed : Assembly) (lost : Centre) (place : ℕ) (why : Why) → view ≡ seen
    → IsFed view.assembly octets n arrived fed → arrived ≡ Never place why
    → lost ≡ cut_off (Closed Grammar) view.centre → IsFrontTaken now octets n (scene seen text)
    (scene (record view { assembly = fed; centre = lost }) text)
never_taken now n octets text seen view arrived fed lost place why is feeds kind cut =
    subst (λ (d : Desk). IsFrontTaken now octets n (scene d text)
    (scene (record view { assembly = fed; centre = lost }) text)) is (record {
      arrived = arrived;
      fed = fed;
      feeds = feeds;
      takes = subst (λ (r : Received). IsArrived now r fed (scene view text)
          (scene (record view { assembly = fed; centre = lost }) text)) (sym kind)
          (ap (λ (c : Centre). scene (record view { assembly = fed; centre = c }) text) cut);
    })

pub deaf_taken : (now n : ℕ) (octets text : List ℕ) (seen view : Desk) (arrived : Received)
    (fed : Assembly) (lost : Centre) → view ≡ seen
    → IsFed view.assembly octets n arrived fed → arrived ≡ Deaf
    → lost ≡ cut_off (Closed Grammar) view.centre → IsFrontTaken now octets n (scene seen text)
    (scene (record view { assembly = fed; centre = lost }) text)
deaf_taken now n octets text seen view arrived fed lost is feeds kind cut =
    subst (λ (d : Desk). IsFrontTaken now octets n (scene d text)
    (scene (record view { assembly = fed; centre = lost }) text)) is (record {
      arrived = arrived;
      fed = fed;
      feeds = feeds;
      takes = subst (λ (r : Received). IsArrived now r fed (scene view text)
          (scene (record view { assembly = fed; centre = lost }) text)) (sym kind)
          (ap (λ (c : Centre). scene (record view { assembly = fed; centre = c }) text) cut);
    })
