-- `utterance_reader::read_block` meets its contract: kind, slots and end are the definition's. Assumes nothing.
use mathlib.Core.Path.{◌≡◌, sym}
use native.Mathlib.Omega.{arith}
use Rattle.packing.specs.Parse.{accepted}
use Rattle.packing.specs.Source.{bytes}
use Rattle.packing.specs.Grammar.{block_kind}
use Rattle.packing.specs.Utterance.{utterance_block}
use Rattle.packing.proofs.Bounds.{field_at_next}
use Rattle.packing.proofs.Whole.{utterance_block_out}
use Rattle.utterance_reader.proofs.Utterances.{utterance_near, promised_slots}
use Rattle.utterance_reader.proofs.read_block.Goals as goal

pub read_utterance-requires : goal.read_utterance-requires
read_utterance-requires c =
    omega (arith, field_at_next (block_kind 2 12) (bytes 11 c.args.block.now) 0 4 (omega arith) (omega arith) (sym c.in-Ok.ensures))

pub zero_from-requires : goal.zero_from-requires
zero_from-requires c =
    let s = c.args.block.now in
    omega (
      arith,
      field_at_next (block_kind 2 12) (bytes 11 s) 0 4 (omega arith) (omega arith) (sym c.in-Ok.ensures),
      utterance_near (bytes 11 s) c.args.words c.in-Ok.next (omega arith) c.in_ok-size.ensures.1,
    )

pub returns-then-zero_from : goal.returns-then-zero_from
unfolding utterance_block
returns-then-zero_from c =
    let a = c.args in
    let (u, e, size, h) = c.in_ok-size.ensures in
    let is : utterance_block a.words a.block.now ≡ accepted u = rw (← c.in-Ok.ensures, e, ← c.if-zero_from.ensures) in
    promised_slots a.words _ is (utterance_block_out a.words a.block.now u is).0 size h
