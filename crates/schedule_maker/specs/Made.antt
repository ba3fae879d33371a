-- A schedule of any size: messages are published, popped, and but for each tenth acknowledged; at the end a pass returns those that are left.
use Rattle.std.specs.Prelude.{ℕ, zero, suc, ◌+◌, ◌%◌, List, [], ◌++◌, codes, decimal, nat_eq, if◌then◌else◌}

-- before the first message: clients 1, 2 and 3 with the seeds 1, 2 and 3
abbrev pub made_head : List ℕ
made_head = codes "celery-schedule 1\nclient 1 seed 1\nclient 2 seed 2\nclient 3 seed 3\n"

-- who pops the message of this number: clients 2 and 3 in turn
abbrev pub popper : ℕ → ℕ
popper i = 2 + i % 2

-- client 1 publishes, at the moment that the message's number is, with the priority that its last digit is
abbrev pub made_publish : ℕ → List ℕ
made_publish i = codes "at " ++ (decimal i ++ (codes "\nbegin 1 publish - celery " ++ (decimal (i % 10) ++ (codes " tasks.add [" ++ (decimal i ++ codes ",1]\nrun 1\n")))))

abbrev pub made_pop : ℕ → List ℕ
made_pop w = codes "begin " ++ (decimal w ++ (codes " pop celery\nrun " ++ (decimal w ++ codes "\n")))

abbrev pub made_ack : ℕ → ℕ → List ℕ
made_ack w i = codes "begin " ++ (decimal w ++ (codes " ack 1:" ++ (decimal i ++ (codes "\nrun " ++ (decimal w ++ codes "\n")))))

-- the lines of the message of this number
abbrev pub made_message : ℕ → List ℕ
made_message i = made_publish i ++ (made_pop (popper i) ++ (if nat_eq (i % 10) 0 then [] else made_ack (popper i) i))

-- the lines of the messages from 1 to this number
abbrev pub made_messages : ℕ → List ℕ
made_messages zero = []
made_messages (suc n) = made_messages n ++ made_message (suc n)

-- after the last message: client 3 passes over what is older than an hour
abbrev pub made_end : List ℕ
made_end = codes "at 100000\nbegin 3 pass 3600\nrun 3\n"

-- the schedule of so many messages
abbrev pub made_text : ℕ → List ℕ
made_text n = made_head ++ (made_messages n ++ made_end)
