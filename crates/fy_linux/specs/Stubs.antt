-- The stubs: what stands behind the code of an image so that its services are done by calls of the system. Instructions by the mnemonics of the manual.
-- They need x1, x14, x15 and x16. x3 holds where the stack of the image ends, and from there on 8,256 bytes are theirs:
--   0  how many bytes wait to be written            8  which byte of the input buffer is next    16  how many bytes it has    24  1 once the input is over
--   32, 40, 48  x10, x11 and x12 as they were       56  x1 as it was                             64  the bytes that wait, up to 4,096      4160  the input buffer, 4,096 bytes
-- The numbers of the calls and of errors: Linux, include/uapi/asm-generic/unistd.h (read 63, write 64, exit_group 94, rt_sigaction 134) and errno-base.h (EINTR 4); signal(7) (SIGPIPE 13, SIG_IGN 1).
use Rattle.std.specs.Prelude.{ℕ, ◌+◌, ◌*◌, ◌/◌, ◌%◌, ℤ, pos, nat_eq, if◌then◌else◌, List, [], ◌∷◌, ◌++◌}
use Rattle.rv_insn.specs.declared.instructions.Insn.{Insn}
use Rattle.rv_insn.specs.Fields.{twos_complement}
use Rattle.fy_linux.specs.Mnemonics.{minus, ld, lbu, sd, sb, add, sub, addi, li, slli, lui, beq, bne, blt, bltu, jal, jalr, ecall}

-- how many bytes are the stubs', and where they keep what
abbrev pub own_bytes : ℕ
own_bytes = 8256

-- the upper 20 bits and the lower 12, which have a sign, that make a number
unfoldable pub upper : ℕ → ℕ
upper n = (n + 2048) / 4096

unfoldable pub lower : ℕ → ℤ
lower n = twos_complement 12 (n % 4096)

-- a number in a register
abbrev pub set : ℕ → ℕ → List Insn
set rd n = lui rd (upper n) ∷ addi rd rd (lower n) ∷ []

-- a call of what stands at an address
abbrev pub call : ℕ → List Insn
call address = lui 1 (upper address) ∷ jalr 1 (lower address) 1 ∷ []

-- start: the three bounds; writing to a closed pipe shall be an error and no signal; the other registers are 0, and the image begins
abbrev pub begin_stub : List Insn
begin_stub =
    lui 4 131072
    ∷ li 1 (pos 1)
    ∷ sd 1 (pos 64) 3
    ∷ li 10 (pos 13)
    ∷ addi 11 3 (pos 64)
    ∷ li 12 (pos 0)
    ∷ li 13 (pos 8)
    ∷ li 17 (pos 134)
    ∷ ecall
    ∷ []

abbrev pub clear_stub : List Insn
clear_stub =
    li 5 (pos 0) ∷ li 6 (pos 0) ∷ li 7 (pos 0) ∷ li 8 (pos 0) ∷ li 9 (pos 0)
    ∷ li 10 (pos 0) ∷ li 11 (pos 0) ∷ li 12 (pos 0) ∷ li 13 (pos 0) ∷ li 17 (pos 0)
    ∷ li 18 (pos 0) ∷ li 19 (pos 0) ∷ li 20 (pos 0) ∷ li 21 (pos 0) ∷ li 22 (pos 0)
    ∷ li 23 (pos 0) ∷ li 24 (pos 0) ∷ li 25 (pos 0) ∷ li 26 (pos 0) ∷ li 27 (pos 0)
    ∷ li 28 (pos 0) ∷ li 29 (pos 0) ∷ li 30 (pos 0) ∷ li 31 (pos 0)
    ∷ lui 1 16
    ∷ jalr 0 (pos 0) 1
    ∷ []

-- where the stack ends is known of an image alone
abbrev pub start_stub : ℕ → List Insn
start_stub stack_end = lui 2 262144 ∷ (set 3 stack_end ++ (begin_stub ++ clear_stub))

-- put: the low byte of x10 goes behind those that wait, and all are written once there are 4,096
abbrev pub put_stub : List Insn
put_stub =
    ld 14 (pos 0) 3
    ∷ add 15 3 14
    ∷ sb 10 (pos 64) 15
    ∷ addi 14 14 (pos 1)
    ∷ sd 14 (pos 0) 3
    ∷ lui 15 1
    ∷ bltu 14 15 (pos 16)  -- to room
    ∷ sd 1 (pos 56) 3
    ∷ jal 1 (pos 168)  -- to flush
    ∷ ld 1 (pos 56) 3
    ∷ li 17 (pos 1)  -- room:
    ∷ jalr 0 (pos 0) 1
    ∷ []

-- take: x10 is the next byte, or -1 behind the last. What waits is written before anything is read
abbrev pub take_stub : List Insn
take_stub =
    ld 14 (pos 8) 3
    ∷ ld 15 (pos 16) 3
    ∷ bltu 14 15 (pos 92)  -- to have
    ∷ ld 15 (pos 24) 3
    ∷ bne 15 0 (pos 124)  -- to over
    ∷ sd 1 (pos 56) 3
    ∷ jal 1 (pos 128)  -- to flush
    ∷ ld 1 (pos 56) 3
    ∷ sd 11 (pos 40) 3
    ∷ sd 12 (pos 48) 3
    ∷ li 10 (pos 0)  -- ask:
    ∷ lui 11 1
    ∷ addi 11 11 (pos 64)
    ∷ add 11 11 3
    ∷ lui 12 1
    ∷ li 17 (pos 63)
    ∷ ecall
    ∷ li 14 (minus 4)
    ∷ beq 10 14 (minus 32)  -- to ask
    ∷ blt 10 0 (pos 188)  -- to unread
    ∷ ld 11 (pos 40) 3
    ∷ ld 12 (pos 48) 3
    ∷ beq 10 0 (pos 44)  -- to last
    ∷ sd 10 (pos 16) 3
    ∷ li 14 (pos 0)
    ∷ lui 15 1  -- have:
    ∷ add 15 15 3
    ∷ add 15 15 14
    ∷ lbu 10 (pos 64) 15
    ∷ addi 14 14 (pos 1)
    ∷ sd 14 (pos 8) 3
    ∷ li 17 (pos 2)
    ∷ jalr 0 (pos 0) 1
    ∷ li 14 (pos 1)  -- last:
    ∷ sd 14 (pos 24) 3
    ∷ li 10 (minus 1)  -- over:
    ∷ li 17 (pos 2)
    ∷ jalr 0 (pos 0) 1
    ∷ []

-- flush: all bytes that wait are written; x10, x11 and x12 stay as they are
abbrev pub flush_stub : List Insn
flush_stub =
    sd 10 (pos 32) 3
    ∷ sd 11 (pos 40) 3
    ∷ sd 12 (pos 48) 3
    ∷ addi 11 3 (pos 64)
    ∷ ld 12 (pos 0) 3
    ∷ li 15 (pos 1)
    ∷ jal 16 (pos 24)  -- to write
    ∷ sd 0 (pos 0) 3
    ∷ ld 10 (pos 32) 3
    ∷ ld 11 (pos 40) 3
    ∷ ld 12 (pos 48) 3
    ∷ jalr 0 (pos 0) 1
    ∷ []

-- write: x12 bytes from x11 on are written to the file x15, and x16 says where to go on. A call that a signal broke off is made again
abbrev pub write_stub : List Insn
write_stub =
    beq 12 0 (pos 44)  -- more: to done
    ∷ addi 10 15 (pos 0)
    ∷ li 17 (pos 64)
    ∷ ecall
    ∷ blt 0 10 (pos 16)  -- to some
    ∷ li 14 (minus 4)
    ∷ beq 10 14 (minus 24)  -- to more
    ∷ jal 0 (pos 20)  -- to unwritten
    ∷ add 11 11 10  -- some:
    ∷ sub 12 12 10
    ∷ jal 0 (minus 40)  -- to more
    ∷ jalr 0 (pos 0) 16  -- done:
    ∷ []

-- unwritten: the file x15 can't be written: where it is 2 there is nobody to tell
abbrev pub unwritten_stub : List Insn
unwritten_stub =
    li 14 (pos 2)
    ∷ beq 15 14 (pos 20)  -- to failed
    ∷ li 14 (pos 160)
    ∷ jal 0 (pos 8)  -- to outside
    ∷ []

-- unread: the input can't be read
abbrev pub unread_stub : List Insn
unread_stub =
    li 14 (pos 128)
    ∷ []

-- outside: the note is written, and the process leaves with 7
abbrev pub outside_stub : List Insn
outside_stub =
    jal 1 (pos 80)  -- to say
    ∷ []

-- failed: the status is 7
abbrev pub failed_stub : List Insn
failed_stub =
    li 10 (pos 7)
    ∷ []

-- leave: the process leaves with the status in x10
abbrev pub leave_stub : List Insn
leave_stub =
    li 17 (pos 94)
    ∷ ecall
    ∷ []

-- end: the program has ended
abbrev pub end_stub : List Insn
end_stub =
    jal 1 (minus 132)  -- to flush
    ∷ li 10 (pos 0)
    ∷ jal 0 (minus 16)  -- to leave
    ∷ []

-- exhausted: the stack is exhausted
abbrev pub exhausted_stub : List Insn
exhausted_stub =
    jal 1 (minus 144)  -- to flush
    ∷ li 14 (pos 0)
    ∷ jal 1 (pos 44)  -- to say
    ∷ li 10 (pos 3)
    ∷ jal 0 (minus 36)  -- to leave
    ∷ []

-- fault: a fault of the kind x10 at the place with the number x11
abbrev pub fault_stub : List Insn
fault_stub =
    jal 1 (minus 164)  -- to flush
    ∷ slli 14 10 5
    ∷ slli 13 11 5
    ∷ jal 1 (pos 20)  -- to say
    ∷ addi 14 13 (pos 192)
    ∷ jal 1 (pos 12)  -- to say
    ∷ li 10 (pos 1)
    ∷ jal 0 (minus 68)  -- to leave
    ∷ []

-- say: the text of the note x14 bytes behind where the notes begin, which is known of an image alone, is written to 2
abbrev pub note_stub : List Insn
note_stub =
    add 14 14 15
    ∷ addi 11 14 (pos 8)
    ∷ ld 12 (pos 0) 14
    ∷ li 15 (pos 2)
    ∷ jal 16 (minus 172)  -- to write
    ∷ jalr 0 (pos 0) 1
    ∷ []

abbrev pub say_stub : ℕ → List Insn
say_stub notes = set 15 notes ++ note_stub

-- the stubs between start and say
abbrev pub middle_stubs : List Insn
middle_stubs =
    put_stub ++ (take_stub ++ (flush_stub ++ (write_stub ++ (unwritten_stub ++ (unread_stub ++ (outside_stub ++ (failed_stub ++ (leave_stub ++ (end_stub ++ (exhausted_stub ++ fault_stub))))))))))

-- all of them
abbrev pub stubs : ℕ → ℕ → List Insn
stubs stack_end notes = start_stub stack_end ++ (middle_stubs ++ say_stub notes)

-- how many words they are, and before which of these each stands
abbrev pub stub_words : ℕ
stub_words = 145

abbrev pub start_word : ℕ
start_word = 0

abbrev pub put_word : ℕ
put_word = 38

abbrev pub take_word : ℕ
take_word = 50

abbrev pub flush_word : ℕ
flush_word = 88

abbrev pub write_word : ℕ
write_word = 100

abbrev pub unwritten_word : ℕ
unwritten_word = 112

abbrev pub unread_word : ℕ
unread_word = 116

abbrev pub outside_word : ℕ
outside_word = 117

abbrev pub failed_word : ℕ
failed_word = 118

abbrev pub leave_word : ℕ
leave_word = 119

abbrev pub end_word : ℕ
end_word = 121

abbrev pub exhausted_word : ℕ
exhausted_word = 124

abbrev pub fault_word : ℕ
fault_word = 129

abbrev pub say_word : ℕ
say_word = 137

-- the stub of a service: end, put, take or exhausted, by its number
abbrev pub service_word : ℕ → ℕ
service_word number =
    if nat_eq number 0 then end_word
    else (if nat_eq number 1 then put_word
    else (if nat_eq number 2 then take_word
    else exhausted_word))
