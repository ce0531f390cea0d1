use Rattle.std.proofs.Common.{◌≡◌, drop, is_some, true}
use Rattle.std.specs.Option.{option_map}
use Rattle.lt_definitions.specs.Rules.{line_at}
use Rattle.lt_kernel.specs.State.{sequents}
use Rattle.lt_kernel.specs.Growing.{Carries}
use Rattle.lt_programs.specs.Programs.{put_each, paired}
use Rattle.lt_derived.proofs.putting.put_each.Given as goal

abbrev pub invariant-loop-k : goal.invariant-loop-k
invariant-loop-k g l = record {
  carries : Carries l.fn.proof l.proof;
  there : is_some (line_at (sequents l.proof) l.line) ≡ true;
  goes : option_map (put_each (paired l.names l.types)) (line_at (sequents l.fn.proof) l.i)
      ≡ option_map (put_each (paired (drop l.k l.names) (drop l.k l.types))) (line_at (sequents l.proof) l.line);
}
