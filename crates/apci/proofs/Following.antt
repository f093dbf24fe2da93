-- When an APDU's octets come, the APDU is received, and nothing of what stands behind it is taken.
use Rattle.std.proofs.Common.{◌≡◌, ℕ, ◌+◌, List, [], ◌++◌, length, arith, refl, ap, sym, ◌∙◌, Some}
use Rattle.std.proofs.lemmas.List.{length-append}
use Rattle.std.proofs.Math.Seq.{take-append_seam}
use Rattle.apci.specs.declared.apdu.Apdu.{Apdu}
use Rattle.apci.specs.declared.apdu.Front.TheVariants.{Whole, More, Never}
use Rattle.apci.specs.declared.assembling.Received.{Received}
use Rattle.apci.specs.declared.assembling.Received.TheVariants as arrived
use Rattle.apci.specs.Spelling.{Fits, spelling}
use Rattle.apci.specs.Reading.{IsFront}
use Rattle.apci.specs.Assembly.{Assembly, Receives, IsReceivedWhole}
use Rattle.apci.proofs.Exact.{one_front}

whole : (a : Apdu) (more : List ℕ) → Fits a
    → IsFront (spelling a ++ more) (Whole a (length (spelling a)))
whole a more fits =
    let longer = length-append (spelling a) more in
    (record { fits = fits; spelled = take-append_seam (spelling a) more }, omega (arith, longer))

pub received_whole : (a : Apdu) (more : List ℕ) (n : ℕ) (h : Received) (after : Assembly) → Fits a
    → Receives [] (spelling a ++ more) n h after → IsReceivedWhole a n h after
received_whole a more n arrived.Whole after fits h =
    let same : Whole a (length (spelling a)) ≡ Whole h.0 (0 + n) =
    one_front (spelling a ++ more) (Whole h.0 (0 + n)) (Whole a (length (spelling a))) h.1
    (whole a more fits) in
    let apdus : a ≡ h.0 = cc in
    let lengths : length (spelling a) ≡ 0 + n = cc in
    record {
      received_is = refl;
      whole = h.3 ∙ ap Some (sym apdus);
      taken =
          omega (arith, lengths);
      listening = h.2;
    }
received_whole a more n arrived.More after fits h =
    let same : Whole a (length (spelling a)) ≡ More =
    one_front (spelling a ++ more) More (Whole a (length (spelling a))) h.0 (whole a more fits) in
    absurd cc
received_whole a more n (arrived.Never place why) after fits h =
    let same : Whole a (length (spelling a)) ≡ Never place why =
    one_front (spelling a ++ more) (Never place why) (Whole a (length (spelling a))) h.0
    (whole a more fits) in
    absurd cc
received_whole a more n arrived.Deaf after fits h = absurd h
