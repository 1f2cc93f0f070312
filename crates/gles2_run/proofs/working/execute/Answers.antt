use Rattle.std.proofs.Common.{◌≡◌, ◌∙◌, ap, subst, inr, List, []}
use Rattle.gl_plain.specs.declared.calls.Reply.{Reply}
use Rattle.cb_shm.specs.HostileMemories.{memory_of}
use Rattle.decoder_core.specs.Side.{side}
use Rattle.gles2_run.specs.declared.desk.Desk.{Desk}
use Rattle.gles2_run.specs.Desks.{loaded_driver}
use Rattle.gles2_run.specs.Puts.{TookPuts}
use Rattle.gles2_run.proofs.Runs.{IsStart, IsEnd, starts, agrees_at_start, are_given, done_holds, bad_holds, lost_holds, short_holds}
use Rattle.gles2_run.proofs.working.execute.Goals as goal

pub take_puts-taken-requires-clause-agrees : goal.take_puts-taken-requires-clause-agrees
take_puts-taken-requires-clause-agrees c = agrees_at_start c.args.script c.in-Ok-new.service c.load.new.self c.in-Ok-new.ensures (c.load.ensures.rest ∙ ap (λ (desk : Desk). record desk.driver { surface = c.args.script.surface; loaded = c.load.new.self.loaded }) c.requires.fresh)

module _ (c : goal.After-drop-memory-3) where
  fresh_driver : c.load.new.self ≡ loaded_driver c.args.script.surface c.load.new.self.loaded
  fresh_driver = c.load.ensures.rest ∙ ap (λ (desk : Desk). record desk.driver { surface = c.args.script.surface; loaded = c.load.new.self.loaded }) c.requires.fresh

  start : IsStart c.args.script (side c.in-Ok-new.service (memory_of c.in-Ok.memory) c.load.new.self) c.as_slice.result.now
  start = starts c.args.script c.in-Ok-new.service c.in-Ok.memory c.load.new.self c.as_slice.result.now c.in-Ok-new.ensures c.in-Ok.ensures.described c.in-Ok.ensures.no_copies c.as_slice.ensures fresh_driver c.load.ensures.answers c.load.ensures.lost

  end : IsEnd c.args.script (side c.take_puts-taken.new.service (memory_of c.take_puts-taken.new.memory) c.take_puts-taken.new.desk.driver)
  end = record {
    given = are_given c.args.script 0 c.take_puts-taken.new.memory.history.copies (c.take_puts-taken.ensures.grows c.args.script c.in-Ok.ensures.described).copies_are;
    legal = c.journal.ensures.legal;
    within = c.journal.ensures.within;
  }

  taken : TookPuts (side c.in-Ok-new.service (memory_of c.in-Ok.memory) c.load.new.self) [] c.as_slice.result.now (side c.take_puts-taken.new.service (memory_of c.take_puts-taken.new.memory) c.take_puts-taken.new.desk.driver) c.take_puts-taken.new.desk.answers c.take_puts-taken.result
  taken = subst (λ (before : List Reply). TookPuts (side c.in-Ok-new.service (memory_of c.in-Ok.memory) c.load.new.self) before c.as_slice.result.now (side c.take_puts-taken.new.service (memory_of c.take_puts-taken.new.memory) c.take_puts-taken.new.desk.driver) c.take_puts-taken.new.desk.answers c.take_puts-taken.result) (ap (λ (desk : Desk). desk.answers) c.requires.fresh) c.take_puts-taken.ensures.taken

pub returns-clause-done : goal.returns-clause-done
returns-clause-done c = done_holds c.args.script (side c.in-Ok-new.service (memory_of c.in-Ok.memory) c.load.new.self) (side c.take_puts-taken.new.service (memory_of c.take_puts-taken.new.memory) c.take_puts-taken.new.desk.driver) c.as_slice.result.now (start c) (end c) c.take_puts-taken.new.desk.answers c.take_puts-taken.result (taken c)

pub returns-clause-bad : goal.returns-clause-bad
returns-clause-bad c = bad_holds c.args.script (side c.in-Ok-new.service (memory_of c.in-Ok.memory) c.load.new.self) (side c.take_puts-taken.new.service (memory_of c.take_puts-taken.new.memory) c.take_puts-taken.new.desk.driver) c.as_slice.result.now (start c) (end c) c.take_puts-taken.new.desk.answers c.take_puts-taken.result (taken c)

pub returns-clause-lost : goal.returns-clause-lost
returns-clause-lost c = lost_holds c.args.script (side c.in-Ok-new.service (memory_of c.in-Ok.memory) c.load.new.self) (side c.take_puts-taken.new.service (memory_of c.take_puts-taken.new.memory) c.take_puts-taken.new.desk.driver) c.as_slice.result.now (start c) (end c) c.take_puts-taken.new.desk.answers c.take_puts-taken.result (taken c) c.journal.ensures.lost

pub returns-clause-short : goal.returns-clause-short
returns-clause-short c = λ is. inr (short_holds c.args.script (side c.in-Ok-new.service (memory_of c.in-Ok.memory) c.load.new.self) (side c.take_puts-taken.new.service (memory_of c.take_puts-taken.new.memory) c.take_puts-taken.new.desk.driver) c.as_slice.result.now (start c) (end c) c.take_puts-taken.new.desk.answers c.take_puts-taken.result (taken c) is)
