use Rattle.std.proofs.Common.{◌∙◌, ap, Err}
use Rattle.kts_top.specs.Courses.{failed, long, starved}
use Rattle.kts_top.proofs.Sinks.{second}
use Rattle.kts_top.proofs.loads.read_file.Goals as goal

pub returns-in-Ok-clause-read : goal.returns-in-Ok-clause-read
returns-in-Ok-clause-read g c =
    let load = c.load.ensures in
    let is = c.in-Ok.is in
    record {
      loaded = record { held = load.same; loads = load.loads };
      calm = second (λ h. cc) load.calm;
      there = (λ h. let failed = load.absent h in cc);
      short = c.in-Ok.ensures.within;
      same = c.in-Ok.ensures.bytes;
    }

pub returns-in-Err-Failed-clause-unread : goal.returns-in-Err-Failed-clause-unread
returns-in-Err-Failed-clause-unread g c =
    let is = c.in-Err-Failed.is ∙ ap Err c.in-Err-Failed.field-0-is in
    failed (record { held = c.load.ensures.same; loads = c.load.ensures.loads }) (c.load.ensures.failed is) c.say_fault_read.ensures

pub returns-in-Err-TooLong-clause-unread : goal.returns-in-Err-TooLong-clause-unread
returns-in-Err-TooLong-clause-unread g c =
    let load = c.load.ensures in
    let is = c.in-Err-TooLong.is ∙ ap Err c.in-Err-TooLong.field-0-is in
    long (record { held = load.same; loads = load.loads }) (second (λ h. cc) load.calm) (λ h. let failed = load.absent h in cc)
    (λ told h. (second (λ h. cc) (load.told_long told h)).0 is) c.say_refused_file.ensures

pub returns-in-Err-NoMemory-clause-unread : goal.returns-in-Err-NoMemory-clause-unread
returns-in-Err-NoMemory-clause-unread g c =
    let is = c.in-Err-NoMemory.is ∙ ap Err c.in-Err-NoMemory.field-0-is in
    starved (record { held = c.load.ensures.same; loads = c.load.ensures.loads }) (second (λ h. cc) c.load.ensures.calm) c.say_no_memory.ensures
