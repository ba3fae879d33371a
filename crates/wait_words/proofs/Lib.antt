mod BadWords
