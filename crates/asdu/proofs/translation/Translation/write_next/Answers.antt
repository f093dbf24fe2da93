use Rattle.std.proofs.Common.{◌≡◌, ◌≤◌, subst, ◌∙◌, arith}
use Rattle.std.specs.List.{AllByRecursion}
use Rattle.elements.specs.declared.types.TypeId.{TypeId}
use Rattle.asdu.specs.Sizes.{ioa_len}
use Rattle.asdu.specs.Asdu.{IsInfo}
use Rattle.asdu.specs.Fields.{is_sequence, ca_at}
use Rattle.asdu.specs.Objects.{infos_left}
use Rattle.asdu.specs.Reading.{value_of}
use Rattle.asdu.specs.Translation.{piece_size}
use Rattle.asdu.proofs.Accepted.{IsAsdu-value_of}
use Rattle.asdu.proofs.Counts.{piece_size-some}
use Rattle.asdu.proofs.Pieces.{AreInfos-rest_at, body_len-piece, piece_size-few, ca-two}
use Rattle.asdu.proofs.Reports.{next_piece, some_left}
use Rattle.asdu.proofs.Steps.{length-rest_at}
use Rattle.asdu.proofs.translation.Translation.write_next.Goals as goal

pub spell_into-requires : goal.spell_into-requires
spell_into-requires c =
    let t = c.self.inside in
    let asdu = t.asdu.now in
    let left = t.left in
    let chunk = c.split_at.result.0 in
    let source = (IsAsdu-value_of asdu asdu.are_octets).value in
    let kind : chunk.kind ≡ asdu.kind = c.split_at.ensures.kinds.0 ∙ c.self.invariant.kind in
    let mode = c.split_at.ensures.modes.0 ∙ c.self.invariant.mode in
    let infos = AreInfos-rest_at chunk.kind chunk.ioa chunk.next_address chunk.left chunk.octets.now
    chunk.enough
    chunk.in_range chunk.are_octets in
    let P : TypeId → Type 0 = λ k. AllByRecursion (IsInfo k 3) (infos_left chunk) in
    let most = c.self.invariant.most in
    let count = length-rest_at left.kind (ioa_len left.ioa) left.next_address left.left
    left.octets.now in
    let more = some_left (value_of asdu) (infos_left left) c.args.self.now c.self.view_is
    c.requires in
    let size = piece_size-some asdu.kind (is_sequence asdu.octets.now) in
    let few : chunk.left ≤ piece_size asdu.kind (is_sequence asdu.octets.now) = omega arith in
    let short = body_len-piece asdu.kind (is_sequence asdu.octets.now) chunk.left few in
    let number = piece_size-few asdu.kind (is_sequence asdu.octets.now) chunk.left few in (
      omega arith,
      (
        c.clear.ensures,
        (
          kind,
          (
            mode,
            (
              omega arith,
              (
                omega arith,
                (
                  ca-two asdu.sizes.ca (ca_at asdu.sizes asdu.octets.now) source.ca,
                  (
                    subst P kind infos,
                    omega arith,
                  ),
                ),
              ),
            ),
          ),
        ),
      ),
    )

pub invariant_of-self : goal.invariant_of-self
invariant_of-self c = record {
  kind = c.split_at.ensures.kinds.1 ∙ c.self.invariant.kind;
  mode = c.split_at.ensures.modes.1 ∙ c.self.invariant.mode;
  most = c.self.invariant.most;
}

pub returns : goal.returns
returns c =
    let t = c.self.inside in
    let asdu = t.asdu.now in
    let left = t.left in
    let v = value_of asdu in
    let count = length-rest_at left.kind (ioa_len left.ioa) left.next_address left.left
    left.octets.now in
    let more = some_left v (infos_left left) c.args.self.now c.self.view_is c.requires in
    next_piece v t.most c.min.result left.left (infos_left left) (infos_left c.split_at.result.0)
    (infos_left c.split_at.result.1) c.args.self.now c.spell_into.new.out.items c.self.view_is
    c.self.invariant.most
    count more (omega arith) c.split_at.ensures.first c.split_at.ensures.others
    c.spell_into.ensures.octets
