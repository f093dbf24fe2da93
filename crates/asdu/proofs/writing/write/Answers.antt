use Rattle.std.proofs.Common.{◌≡◌, List, length, subst, sym, ap, ◌∙◌, arith}
use Rattle.std.specs.List.{AllByRecursion}
use Rattle.asdu.specs.Sizes.{ioa_len}
use Rattle.asdu.specs.Asdu.{Info, IsInfo}
use Rattle.asdu.specs.Reading.{value_of}
use Rattle.asdu.specs.Objects.{infos_left}
use Rattle.asdu.specs.Writing.{carried}
use Rattle.asdu.proofs.Accepted.{IsAsdu-value_of}
use Rattle.asdu.proofs.Pieces.{AreInfos-fitting, length-spelled, again}
use Rattle.asdu.proofs.Steps.{length-rest_at}
use Rattle.asdu.proofs.writing.write.Goals as goal

pub spell-requires : goal.spell-requires
spell-requires c =
    let asdu = c.args.asdu.now in
    let v = value_of asdu in
    let sizes = c.args.sizes in
    let objects = c.objects.result in
    let source = (IsAsdu-value_of asdu asdu.are_octets).value in
    let infos = AreInfos-fitting asdu.kind (ioa_len asdu.sizes.ioa)
    (ioa_len sizes.ioa) v.infos source.infos c.requires.addresses in
    let P : List Info → Type 0 = λ is. AllByRecursion (IsInfo asdu.kind (ioa_len sizes.ioa)) is in
    let count : length v.infos ≡ objects.left =
    ap (λ is. length is) (sym c.objects.ensures.infos)
    ∙ length-rest_at objects.kind (ioa_len objects.ioa) objects.next_address objects.left
    objects.octets.now in
    let long = length-spelled sizes (carried sizes v) source.some infos in
    let room = c.requires.room in (
      omega arith,
      (
        c.objects.ensures.kind,
        (
          c.objects.ensures.mode,
          (
            rw (← count) source.some,
            (
              rw (← count) source.most,
              (
                c.requires.ca,
                (
                  subst P (sym c.objects.ensures.infos) infos,
                  rw (← count) (omega arith),
                ),
              ),
            ),
          ),
        ),
      ),
    )

pub returns-clause-again : goal.returns-clause-again
returns-clause-again c = λ same.
    let asdu = c.args.asdu.now in
    again asdu.sizes c.args.sizes (value_of asdu) (infos_left c.objects.result) asdu.octets.now
    c.spell.result.items
    same
    (IsAsdu-value_of asdu asdu.are_octets) c.objects.ensures.infos c.spell.ensures.spells
