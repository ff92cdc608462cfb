-- The message that is drafted.
use Rattle.frame_message.specs.Message.{Message}
use Rattle.frame_message.specs.Writing.{given_message}
use Rattle.frame_write_given.specs.declared.Draft.{Draft}

-- the message that the writer is given, its routes as one row of bytes
abbrev pub drafted : Draft → Message
drafted d = given_message d.header d.routes.now d.topic.now d.payload.now
