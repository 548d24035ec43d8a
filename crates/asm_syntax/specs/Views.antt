-- What the values of the code stand for, whatever memory holds them.
use Rattle.std.specs.Prelude.{ℕ, map}
use Rattle.std.specs.Option.{option_map}
use Rattle.asm_syntax.specs.Operands.{Target}
use Rattle.asm_syntax.specs.Statements.{Statement, Line, instruction, float_instruction, branch, jump_and_link, load_immediate}
use Rattle.asm_syntax.specs.Statements.{load_address, words, halves, bytes, ascii, space, align, entry, atomic_instruction}
use Rattle.asm_syntax.specs.declared.statement.Target.{Target as TargetCode}
use Rattle.asm_syntax.specs.declared.statement.Statement.{Statement as StatementCode}
use Rattle.asm_syntax.specs.declared.statement.Statement.TheVariants.{Instruction, FloatInstruction, Branch, Jal, LoadImmediate}
use Rattle.asm_syntax.specs.declared.statement.Statement.TheVariants.{LoadAddress, Words, Halves, Bytes, Ascii, Space, Align, Entry}
use Rattle.asm_syntax.specs.declared.statement.Statement.TheVariants.{AtomicInstruction}
use Rattle.asm_syntax.specs.declared.statement.Line.{Line as LineCode}

-- targets, statements and lines of the code as those of the definitions
abbrev pub target_value : TargetCode → Target
target_value t = record { label = option_map (λ l. l.now) t.label; offset = t.offset }

-- registers and a target
abbrev pub register_target_value : ℕ × TargetCode → ℕ × Target
register_target_value o = (o.0, target_value o.1)

abbrev pub registers_target_value : ℕ × ℕ × TargetCode → ℕ × ℕ × Target
registers_target_value o = (o.0, o.1, target_value o.2)

abbrev pub statement_value : {A : Type 0} → StatementCode A → Statement
statement_value (Instruction i) = instruction i
statement_value (FloatInstruction i) = float_instruction i
statement_value (AtomicInstruction i) = atomic_instruction i
statement_value (Branch op rs1 rs2 target) = branch op rs1 rs2 (target_value target)
statement_value (Jal rd target) = jump_and_link rd (target_value target)
statement_value (LoadImmediate rd n) = load_immediate rd n
statement_value (LoadAddress rd target) = load_address rd (target_value target)
statement_value (Words targets) = words (map target_value targets)
statement_value (Halves ns) = halves ns
statement_value (Bytes ns) = bytes ns
statement_value (Ascii bs) = ascii bs
statement_value (Space n) = space n
statement_value (Align n) = align n
statement_value (Entry target) = entry (target_value target)

abbrev pub line_value : {A : Type 0} → LineCode A → Line
line_value l = record { labels = map (λ label. label.now) l.labels; statement = option_map statement_value l.statement }
